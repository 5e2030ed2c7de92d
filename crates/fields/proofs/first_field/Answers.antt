-- `fields::first_field` meets its contract: a line is cut at its first space. Assumes nothing.
use Rattle.fields.proofs.Places.{cut_at}
use Rattle.fields.proofs.first_field.Goals as goal

pub returns-in-Some : goal.returns-in-Some
returns-in-Some c =
    let e = c.in-Some.ensures in cut_at c.args.line.now c.in-Some.place e.within e.found e.before
