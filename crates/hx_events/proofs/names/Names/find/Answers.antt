-- The table finds a name where the list has it.
use Rattle.std.proofs.Common.{◌≡◌, Some, None, rules, sym, ◌∙◌, ap}
use Rattle.hx_events.specs.Places.{place_of}
use Rattle.hx_events.proofs.PlaceLemmas.{found_place, named_is}
use Rattle.hx_events.proofs.names.Names.find.Goals as goal

pub returns : goal.returns
returns c =
    let place : c.get_index_of.result ≡ place_of c.args.resource.now c.args.self.now =
    c.get_index_of.ensures.index ∙ found_place c.args.resource.now _ (named_is c.args.resource.now) _ ∙ ap (place_of c.args.resource.now) c.self.view_is in
    ap Some c.new.ensures ∙ sym c.in_ok-number.was ∙ place

pub returns-in_err-number : goal.returns-in_err-number
returns-in_err-number c =
    let place : c.get_index_of.result ≡ place_of c.args.resource.now c.args.self.now =
    c.get_index_of.ensures.index ∙ found_place c.args.resource.now _ (named_is c.args.resource.now) _ ∙ ap (place_of c.args.resource.now) c.self.view_is in
    let none : c.from_residual.result ≡ None = search rules in
    none ∙ sym c.in_err-number.was ∙ place
