use Rattle.listing.proofs.start.list_over.Goals as goal

pub returns : goal.returns
returns c = record { grammar = c.load-grammar.result; loaded = c.load-grammar.ensures; listed = c.list_in.ensures }
