-- A new name at the end keeps the names distinct, and few enough.
use Rattle.std.proofs.Common.{◌≡◌, ℕ, List, [], ◌∷◌, ◌++◌, refl, rules, ◌∙◌, ap}
use Rattle.hx_events.specs.Places.{place_of, texts_of}
use Rattle.hx_events.proofs.PlaceLemmas.{names_push, names_same, none_there, named_is, table_push, if_ok, if_failed}
use Rattle.hx_events.proofs.names.Names.add.Goals as goal
use Rattle.hx_events.proofs.names.Names.add.Goals.{in-Ok, in-Err}

pub invariant_of-self : goal.invariant_of-self
invariant_of-self c =
    elim c.match-insert.branch [
      | in-Ok w ↦
          let new = ap (place_of c.args.resource.items) c.self.view_is ∙ c.requires.new in
          let absent = none_there c.args.resource.items _ (named_is c.args.resource.items) 0 c.self.inside.set.keys new in
          names_push (texts_of c.self.inside.set.keys) (texts_of c.insert.new.self.keys) c.args.self.now c.args.resource.items c.args.resource.items
          (table_push c.self.inside.set.keys c.insert.new.self.keys c.args.resource _ absent w.in-Ok.ensures.keys) refl c.self.view_is c.requires.new c.requires.room c.self.invariant
      | in-Err w ↦
          let same : c.insert.new.self.keys ≡ c.self.inside.set.keys = search rules in
          names_same (texts_of c.self.inside.set.keys) (texts_of c.insert.new.self.keys) (ap texts_of same) c.self.invariant
    ]

pub returns-clause-added : goal.returns-clause-added
returns-clause-added c =
    elim c.match-insert.branch [
      | in-Ok w ↦
          let new = ap (place_of c.args.resource.items) c.self.view_is ∙ c.requires.new in
          let absent = none_there c.args.resource.items _ (named_is c.args.resource.items) 0 c.self.inside.set.keys new in
          if_ok _ c.match-insert.result
          (table_push c.self.inside.set.keys c.insert.new.self.keys c.args.resource _ absent w.in-Ok.ensures.keys ∙ ap (λ (l : List (List ℕ)). l ++ c.args.resource.items ∷ []) c.self.view_is)
      | in-Err w ↦ if_failed _ c.match-insert.result _ w.result-is
    ]
