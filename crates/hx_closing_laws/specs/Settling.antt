-- From resource to resource, until nothing is due.
use Rattle.std.specs.Prelude.{◌≡◌, ◌≢◌, ◌<◌, ◌≤◌, ℕ, zero, suc, ◌+◌, ◌*◌, Bool, true, false, ◌||◌, List, map, [], ◌∷◌, length, if◌then◌else◌, Option, Some, None, is_some, is_none, Result, Ok, Err, OnErr, refl}
use Rattle.std.proofs.Common.{ap, sym, ◌∙◌, subst, arith, ⊎_elim}
use Rattle.std.proofs.lemmas.Bool.Decides.{eqb_tells}
use Rattle.std.proofs.lemmas.Nat.{mul-le}
use Rattle.hx_events.specs.declared.backup.Backup.{Backup}
use Rattle.hx_events.specs.declared.life.Entry.{Entry}
use Rattle.hx_rules.specs.Entries.{Deed}
use Rattle.hx_rules.specs.Due.{VaultWork, SaveWork, due_save, due_vault}
use Rattle.hx_rules.specs.Legal.{Opening, restored_at, save_due, vault_due, is_quiet, lowest_from, found_backup}
use Rattle.hx_lives.specs.Course.{Course, Past, opening}
use Rattle.hx_lives.specs.Calls.{AddsFew, AddsStages, HasGoneOn, Settles, stages_at_most}
use Rattle.hx_closing_laws.specs.Order.{HasClosed, IsSameLife, IsOnlyOf, ClosesOne}

-- no stage of the resource k is due
abbrev pub IsDone : Opening → List Entry → ℕ → Type 0
IsDone o es k = (save_due o es k ≡ None) × (vault_due o es k ≡ None)

-- The Closer has settled the first n resources: it has done stages of those, few for each, and none is due for one of them.
pub record HasSettled (old : Course) (n : ℕ) (new : Course) : Type 0 where
  pub same : IsSameLife old new
  pub closed : HasClosed (opening old) old.entries n new.entries
  pub done : (k : ℕ) → k < n → IsDone (opening old) new.entries k
  pub few : length new.entries ≤ length old.entries + stages_at_most old.guarded * n

-- Of one resource it has done stages, few of them.
pub record SettlesOne (c : ℕ) (old new : Course) : Type 0 where
  pub stages : ClosesOne c old new
  pub few : length new.entries ≤ length old.entries + stages_at_most old.guarded

-- ---- what is due for a resource depends on its own deeds alone
done_same : (o : Opening) (c k : ℕ) (old new : List Entry) → IsOnlyOf c old new → k ≢ c → IsDone o old k → IsDone o new k
done_same o c k old new only apart done =
    (ap (λ (ds : List Deed). due_save (restored_at o k) o.guarded ds) (only k apart) ∙ done.0, ap (λ (ds : List Deed). due_vault (restored_at o k) o.guarded ds) (only k apart) ∙ done.1)

done_more : (o : Opening) (c : ℕ) (old new : List Entry) → ((k : ℕ) → k < c → IsDone o old k) → IsOnlyOf c old new → IsDone o new c → (k : ℕ) → k < c + 1 → IsDone o new k
done_more o c old new done only last k below = ⊎_elim
    (λ same. subst (IsDone o new) (sym same.1) last)
    (λ other. done_same o c k old new only other.1 (done k (omega (arith, below, other.1))))
    (eqb_tells k c)

none_from : (test : ℕ → Bool) (i n : ℕ) → ((k : ℕ) → k < i + n → test k ≡ false) → lowest_from test i n ≡ None
none_from test i zero none = refl
none_from test i (suc n) none = go (test i) (none i (omega arith)) (none_from test (i + 1) n (λ k below. none k (omega (arith, below))))
  where
    go : (b : Bool) → b ≡ false → lowest_from test (i + 1) n ≡ None → (if b then Some i else lowest_from test (i + 1) n) ≡ None
    go true is rest = absurd cc
    go false is rest = rest

-- nothing is due at all
all_done : (o : Opening) (n : ℕ) (es : List Entry) → n ≡ length o.restored → ((k : ℕ) → k < n → IsDone o es k) → is_quiet o es ≡ true
all_done o n es same done = ap is_none (none_from (λ c. is_some (vault_due o es c) || is_some (save_due o es c)) 0 (length o.restored) (λ k below. neither k (done k (omega (arith, below, same)))))
  where
    neither : (k : ℕ) → IsDone o es k → (is_some (vault_due o es k) || is_some (save_due o es k)) ≡ false
    neither k both = ap (λ (w : Option VaultWork). is_some w || is_some (save_due o es k)) both.1 ∙ ap (λ (w : Option SaveWork). false || is_some w) both.0

-- ---- from resource to resource
pub settled_none : (old : Course) → HasSettled old 0 old
settled_none old = record {
  same = refl;
  closed = record { stages = []; whole = refl; close = refl; up_to = omega arith };
  done = λ k below. absurd (omega (arith, below));
  few = omega arith;
}

same_on : (old mid new : Course) → IsSameLife old mid → IsSameLife mid new → IsSameLife old new
same_on old mid new first second = second ∙ ap (λ (m : Course). record { names = m.names; base = m.base; guarded = m.guarded; moment = m.moment; faults = m.faults; entries = new.entries }) first

closed_on : (c : ℕ) (old mid new : Course) → IsSameLife old mid → ClosesOne c mid new → HasClosed (opening old) old.entries c mid.entries → HasClosed (opening old) old.entries c new.entries
closed_on c old mid new same one so_far =
    subst (λ (o : Opening). HasClosed o old.entries c new.entries) (ap opening same)
    (one.closes old.entries (subst (λ (o : Opening). HasClosed o old.entries c mid.entries) (sym (ap opening same)) so_far))

few_on : (most n a b c : ℕ) → b ≤ a + most * n → c ≤ b + most → c ≤ a + most * (n + 1)
few_on most n a b c first second = omega (arith, first, second)

settled_next : (c : ℕ) (old mid new : Course) → HasSettled old c mid → SettlesOne c mid new → IsDone (opening new) new.entries c → HasSettled old (c + 1) new
settled_next c old mid new so_far one last =
    let whole : IsSameLife old new = same_on old mid new so_far.same one.stages.same in
    let closed : HasClosed (opening old) old.entries c new.entries = closed_on c old mid new so_far.same one.stages so_far.closed in
    record {
      same = whole;
      closed = record { stages = closed.stages; whole = closed.whole; close = closed.close; up_to = omega (arith, closed.up_to) };
      done = done_more (opening old) c mid.entries new.entries so_far.done one.stages.only (subst (λ (o : Opening). IsDone o new.entries c) (ap opening whole) last);
      few = few_on (stages_at_most old.guarded) c (length old.entries) (length mid.entries) (length new.entries) so_far.few
          (subst (λ (g : Bool). length new.entries ≤ length mid.entries + stages_at_most g) (ap (λ (m : Course). m.guarded) so_far.same) one.few);
    }

-- the resource r, which is the next one, is settled
pub settled_one : (c r : ℕ) (old mid new : Course) → r ≡ c → HasSettled old c mid → SettlesOne r mid new → IsDone (opening new) new.entries r → HasSettled old (c + 1) new
settled_one c r old mid new is so_far one last =
    settled_next c old mid new so_far (subst (λ (k : ℕ). SettlesOne k mid new) is one) (subst (IsDone (opening new) new.entries) is last)

-- ---- what comes of it
with_stages : (c : ℕ) (old new : Course) → IsSameLife old new → HasClosed (opening old) old.entries c new.entries → AddsStages old new
with_stages c old new same closed = record {
  stages = closed.stages;
  grown = same ∙ ap (λ (es : List Entry). record { names = old.names; base = old.base; guarded = old.guarded; moment = old.moment; faults = old.faults; entries = es }) closed.whole;
  close = closed.close;
}

-- the stages that were done of the resource that was in hand stand
pub cut_short : {T E : Type 0} (result : Result T E) (c r : ℕ) (old mid new : Course) → r ≡ c → HasSettled old c mid → SettlesOne r mid new → OnErr result (AddsStages old new)
cut_short (Ok x) c r old mid new is so_far one = tt
cut_short (Err e) c r old mid new is so_far one =
    let next : SettlesOne c mid new = subst (λ (k : ℕ). SettlesOne k mid new) is one in
    with_stages c old new (same_on old mid new so_far.same next.stages.same) (closed_on c old mid new so_far.same next.stages so_far.closed)

few_of : (most n count a b c : ℕ) → n < count → b ≤ a + most * n → c ≤ b + most → c ≤ a + most * count
few_of most n count a b c within first second =
    let more : most * (n + 1) ≤ most * count = mul-le most (n + 1) most count (omega arith) (omega (arith, within)) in
    omega (arith, first, second, more)

pub cut_few : (c r : ℕ) (old mid new : Course) → c < length old.names → HasSettled old c mid → SettlesOne r mid new → AddsFew old new
cut_few c r old mid new within so_far one =
    few_of (stages_at_most old.guarded) c (length old.names) (length old.entries) (length mid.entries) (length new.entries) within so_far.few
    (subst (λ (g : Bool). length new.entries ≤ length mid.entries + stages_at_most g) (ap (λ (m : Course). m.guarded) so_far.same) one.few)

length-restored : (names : List (List ℕ)) (f : List ℕ → Option Backup) → length (map f names) ≡ length names
length-restored [] f = refl
length-restored (name ∷ names) f = omega (arith, length-restored names f)

pub settled_all : (n : ℕ) (old new : Course) → n ≡ length old.names → HasSettled old n new → Settles old new
settled_all n old new all so_far =
    let stages : AddsStages old new = with_stages n old new so_far.same so_far.closed in
    record {
      stages = stages.stages;
      grown = stages.grown;
      close = stages.close;
      quiet = all_done (opening old) n new.entries (all ∙ sym (length-restored old.names (λ name. found_backup name old.base))) so_far.done;
    }

pub settled_few : (n : ℕ) (old new : Course) → n ≡ length old.names → HasSettled old n new → AddsFew old new
settled_few n old new all so_far = subst (λ (m : ℕ). length new.entries ≤ length old.entries + stages_at_most old.guarded * m) all so_far.few

-- ---- the disk goes on
module _ {D : Type 0} (time : D → ℕ) (past : D → Past) (failures : D → ℕ) where
  pub stands : (disk : D) → HasGoneOn time past failures disk disk
  stands disk = record { later = omega arith; kept = λ t f le. refl; no_fewer = omega arith }

  pub stays : (old mid new : D) → HasGoneOn time past failures old mid → new ≡ mid → HasGoneOn time past failures old new
  stays old mid new first same = subst (HasGoneOn time past failures old) (sym same) first

  pub goes_on : (old mid new : D) → HasGoneOn time past failures old mid → HasGoneOn time past failures mid new → HasGoneOn time past failures old new
  goes_on old mid new first second = record {
    later = omega (arith, first.later, second.later);
    kept = λ t f le. second.kept t f (omega (arith, le, first.later)) ∙ first.kept t f le;
    no_fewer = omega (arith, first.no_fewer, second.no_fewer);
  }
