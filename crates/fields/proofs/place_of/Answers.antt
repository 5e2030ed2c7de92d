-- `fields::place_of` meets its contract: what is said of the rest of the line is said of the line. Assumes nothing.
use Rattle.std.proofs.Common.{sym, ◌∙◌}
use Rattle.fields.proofs.Places.{rest_has, rest_before, rest_misses, if_none}
use Rattle.fields.proofs.place_of.Goals as goal

pub returns-in_err-first_place-clause-none : goal.returns-in_err-first_place-clause-none
returns-in_err-first_place-clause-none c =
    let e = sym c.first_place.ensures ∙ c.in_err-first_place.was in
    if_none c.from_residual.result (λ k. rest_misses c.args.byte c.args.line.now c.args.from k c.requires e)

pub returns-clause-before : goal.returns-clause-before
returns-clause-before c =
    let e = sym c.first_place.ensures ∙ c.in_ok-first_place.was in
    λ k. rest_before c.args.byte c.args.line.now c.args.from c.in_ok-first_place.field-0 k c.requires e

pub returns-clause-found : goal.returns-clause-found
returns-clause-found c =
    let e = sym c.first_place.ensures ∙ c.in_ok-first_place.was in
    rest_has c.args.byte c.args.line.now c.args.from c.in_ok-first_place.field-0 c.requires e
