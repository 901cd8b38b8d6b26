-- An event of a resource that a core takes: what its resource's step asks, and what the core keeps after it.
use Rattle.std.specs.Prelude.{ℕ, ◌≡◌, ◌+◌, ◌^◌, ◌<◌, Bool, true, ◌&&◌, ◌||◌, List, [], ◌∷◌, ◌++◌, length, Some, None, is_some, slice_get, refl}
use Rattle.std.proofs.Common.{arith, ap, sym, ◌∙◌, subst}
use Rattle.std.proofs.lemmas.List.{length-reverse}
use Rattle.hx_events.specs.declared.event.Event.{Event}
use Rattle.hx_events.specs.declared.event.Event.TheVariants.{Act, Vault, Flush, Quit}
use Rattle.hx_events.specs.declared.life.Entry.{Entry}
use Rattle.hx_rules.specs.Entries.{own, past}
use Rattle.hx_rules.specs.Legal.{Opening, restored_at, is_row, is_spent, lacks_pair}
use Rattle.hx_rules_laws.specs.SaveLaws.{own_up_to, ticket_is_new}
use Rattle.hx_seq.specs.Keeps.{stand_in}
use Rattle.hx_resource.specs.declared.asks.Asked.{Asked}
use Rattle.hx_resource.specs.declared.asks.Got.{Got}
use Rattle.hx_resource.specs.Kept.{Kept, ResourceState, kept_after}
use Rattle.hx_resource.specs.Rows.{row_kept, vault_due_kept, save_due_kept}
use Rattle.hx_resource.specs.Asks.{FitsAsked, asks_kept, outcome_kept}
use Rattle.hx_resource.specs.Rooms.{IsKnown, IsRead, CanCount}
use Rattle.hx_resource_laws.specs.Fits.{Fits}
use Rattle.hx_resource_laws.specs.Counts.{can_count, own_count}
use Rattle.hx_core.specs.Listed.{res_of, listed_after}
use Rattle.hx_core.specs.Cores.{IsCore, named, takes_pair, asks_at, outcome_at}
use Rattle.hx_core.specs.Keeping.{asks_kept_at, outcome_kept_at, core_step, newest_row}
use lib.ListN.{set}

named_number : (e : Event) (i : ℕ) → named e ≡ Some i → i ≡ res_of e
named_number (Act command) i h = cc
named_number (Vault c) i h = cc
named_number (Flush c) i h = cc
named_number Quit i h = absurd cc

named_known : (e : Event) (i : ℕ) → named e ≡ Some i → IsKnown e
named_known (Act command) i h = tt
named_known (Vault c) i h = tt
named_known (Flush c) i h = tt
named_known Quit i h = absurd cc

-- Who answers an event of the resource i, by what is kept of it.
pub asks_here : (o : Opening) (es : List Entry) (e : Event) (i : ℕ) (s : Kept) (lacks : Bool) → named e ≡ Some i → lacks ≡ (takes_pair e && lacks_pair o es i) → Fits (restored_at o i) o.guarded (own i es) s
    → asks_kept o.guarded lacks s e ≡ asks_at o es e
asks_here o es e i s lacks of is fits =
    let number = named_number e i of in
    asks_kept_at o es e s lacks (named_known e i of) (is ∙ ap (λ k. takes_pair e && lacks_pair o es k) number) (subst (λ (k : ℕ). Fits (restored_at o k) o.guarded (own k es) s) number fits)

-- The counts of a resource can go on while the history is in memory.
pub last_counts : (o : Opening) (h : List Entry) (i : ℕ) (s : Kept) → Fits (restored_at o i) o.guarded (own i (past h)) s → length h < 2 ^ 63 → CanCount s
last_counts o h i s fits few = can_count (restored_at o i) o.guarded (own i (past h)) s fits (omega (arith, few, own_count i (past h), length-reverse h))

-- The event e of the resource i, whose state is s, comes to a core after the history h.
pub record Comes (o : Opening) (first : List (ℕ × ℕ)) (resources : List ResourceState) (pairs : List (ℕ × ℕ)) (h : List Entry) (spent : Bool) (vault save : List Bool) (e : Event) (i : ℕ) (s : ResourceState) (lacks : Bool) : Type 0 where
  pub core : IsCore o first resources pairs h spent vault save
  pub named_is : named e ≡ Some i
  pub known : i < length resources
  pub state : slice_get resources i ≡ Some s
  pub lacks_is : lacks ≡ (takes_pair e && lacks_pair o (past h) i)

module _ (o : Opening) (first : List (ℕ × ℕ)) (resources : List ResourceState) (pairs : List (ℕ × ℕ)) (h : List Entry) (spent : Bool) (vault save : List Bool) (e : Event) (i : ℕ) (s : ResourceState) (lacks : Bool) (comes : Comes o first resources pairs h spent vault save e i s lacks) where
  number : i ≡ res_of e
  number = named_number e i comes.named_is

  known : IsKnown e
  known = named_known e i comes.named_is

  now_fits : Fits (restored_at o i) o.guarded (own i (past h)) s.kept
  now_fits = comes.core.kept.fits i s comes.state

  fits_named : Fits (restored_at o (res_of e)) o.guarded (own (res_of e) (past h)) s.kept
  fits_named = subst (λ (k : ℕ). Fits (restored_at o k) o.guarded (own k (past h)) s.kept) number now_fits

  lacks_named : lacks ≡ (takes_pair e && lacks_pair o (past h) (res_of e))
  lacks_named = comes.lacks_is ∙ ap (λ k. takes_pair e && lacks_pair o (past h) k) number

  pub answer_fits : (got : Got) → FitsAsked (asks_at o (past h) e) got → FitsAsked (asks_kept o.guarded lacks s.kept e) got
  answer_fits got fits = subst (λ (a : Asked). FitsAsked a got) (sym (asks_kept_at o (past h) e s.kept lacks known lacks_named fits_named)) fits

  pub counts : length h < 2 ^ 63 → CanCount s.kept
  counts few = can_count (restored_at o i) o.guarded (own i (past h)) s.kept now_fits (omega (arith, few, own_count i (past h), length-reverse h))

  pub new_ticket : (place : ℕ) → place ≡ length h + 1 → stand_in place s.kept.seq.tickets ≡ None
  new_ticket place is =
      now_fits.seq.tickets place ∙ ticket_is_new (restored_at o i) (own i (past h)) place (length (past h)) (omega (arith, is, length-reverse h)) (own_up_to i (past h))

  pub outcome_is : (got : Got) → outcome_kept o.guarded lacks spent s.kept e got ≡ outcome_at o (past h) e got
  outcome_is got = outcome_kept_at o (past h) e got s.kept lacks spent known lacks_named comes.core.kept.spent fits_named

  module _ (entry : Entry) (of : entry.event ≡ e) (t : ResourceState) (place : ℕ) (at_place : place ≡ length h + 1) (read : IsRead entry.outcome entry.content) (row : row_kept o.guarded lacks spent s.kept e entry.outcome ≡ true)
      (is : t.kept ≡ kept_after o.guarded place e entry.outcome entry.content s.kept) where
    -- what the core keeps then
    pub keeps : (resources2 : List ResourceState) (pairs2 : List (ℕ × ℕ)) (h2 : List Entry) (spent2 v w : Bool) (vault2 save2 : List Bool)
        → resources2 ≡ set resources i t → pairs2 ≡ listed_after entry.outcome i pairs → h2 ≡ h ++ entry ∷ [] → spent2 ≡ (spent || is_spent entry.outcome)
        → v ≡ is_some (vault_due_kept o.guarded t.kept) → w ≡ is_some (save_due_kept o.guarded t.kept)
        → vault2 ≡ set vault i v → save2 ≡ set save i w
        → IsCore o first resources2 pairs2 h2 spent2 vault2 save2
    keeps = core_step o first resources pairs h spent vault save entry i lacks s t
        (number ∙ ap res_of (sym of)) (subst IsKnown (sym of) known) comes.known comes.core comes.state
        (subst (λ (x : Event). lacks ≡ (takes_pair x && lacks_pair o (past h) (res_of x))) (sym of) lacks_named)
        read (subst (λ (x : Event). row_kept o.guarded lacks spent s.kept x entry.outcome ≡ true) (sym of) row)
        (subst (λ (x : Event). t.kept ≡ kept_after o.guarded (length h + 1) x entry.outcome entry.content s.kept) (sym of) (is ∙ ap (λ n. kept_after o.guarded n e entry.outcome entry.content s.kept) at_place))

    -- the outcome is one that the event may have
    pub may_have : is_row o (past h) e entry.outcome ≡ true
    may_have = subst (λ (x : Event). is_row o (past h) x entry.outcome ≡ true) of
        (newest_row o first (set resources i t) (listed_after entry.outcome i pairs) h entry (spent || is_spent entry.outcome) (set vault i (is_some (vault_due_kept o.guarded t.kept))) (set save i (is_some (save_due_kept o.guarded t.kept)))
        (keeps (set resources i t) (listed_after entry.outcome i pairs) (h ++ entry ∷ []) (spent || is_spent entry.outcome) (is_some (vault_due_kept o.guarded t.kept)) (is_some (save_due_kept o.guarded t.kept)) (set vault i (is_some (vault_due_kept o.guarded t.kept))) (set save i (is_some (save_due_kept o.guarded t.kept))) refl refl refl refl refl refl refl refl))
