-- How a run of calls goes on from call to call.
use Rattle.std.specs.Prelude.{◌≡◌, ◌≢◌, ◌≤◌, ◌<◌, ◌⊎◌, ℕ, List, refl}
use Rattle.std.proofs.Common.{sym, ◌∙◌, ap, subst, inl, inr, ⊎_elim, arith}
use Rattle.std.proofs.lemmas.Bool.{cases_lt}
use Rattle.std.proofs.lemmas.Bool.Decides.{eqb_tells}
use Rattle.hx_disk.specs.File.{FileState, IsImage}
use Rattle.hx_disk.specs.Disk.{Elapses, ChangesOnly, ChangesNothing, Left, Through, ThroughAll}

module _ {D : Type 0} (moment : D → ℕ) (past : D → ℕ → ℕ → FileState) (now : D → ℕ → FileState) (present : (d : D) (f : ℕ) → past d (moment d) f ≡ now d f) where
  -- before the first call
  pub started : (file : ℕ) (P : FileState → Type 0) (d : D) → P (now d file) → Through moment past file P d d
  started file P d here = record {
    later = omega arith;
    kept = λ t f le. refl;
    each = λ t from to. subst P (sym (ap (λ n. past d n file) (omega (arith, from, to)) ∙ present d file)) here;
    others = λ t f apart from to. ap (λ n. past d n f) (omega (arith, from, to));
  }

  -- one call more
  pub goes_on : (file : ℕ) (P : FileState → Type 0) (old mid new : D) → Through moment past file P old mid → ChangesOnly moment past now file mid new → P (now new file) → Through moment past file P old new
  goes_on file P old mid new so_far call here = record {
    later = omega (arith, so_far.later, call.time.later);
    kept = λ t f le. call.time.kept t f (omega (arith, le, so_far.later)) ∙ so_far.kept t f le;
    each = λ t from to. ⊎_elim
        (λ after. subst P (sym (ap (λ n. past new n file) (last t after to) ∙ present new file)) here)
        (λ before. subst P (sym (call.time.kept t file before)) (so_far.each t from before))
        (cases_lt (moment mid) t);
    others = λ t f apart from to. ⊎_elim
        (λ after. ap (λ n. past new n f) (last t after to) ∙ present new f ∙ call.others f apart ∙ sym (present mid f) ∙ so_far.others (moment mid) f apart so_far.later (omega arith))
        (λ before. call.time.kept t f before ∙ so_far.others t f apart from before)
        (cases_lt (moment mid) t);
  }
    where
      last : (t : ℕ) → moment mid < t → t ≤ moment new → t ≡ moment new
      last t after to = omega (arith, after, to, call.time.by_one)

  -- a call that changes nothing
  pub rested : (file : ℕ) (P : FileState → Type 0) (old mid new : D) → Through moment past file P old mid → ChangesNothing moment past now mid new → Through moment past file P old new
  rested file P old mid new so_far call = record {
    later = omega (arith, so_far.later, call.still);
    kept = λ t f le. call.kept t f (omega (arith, le, so_far.later)) ∙ so_far.kept t f le;
    each = λ t from to. subst P (sym (call.kept t file (omega (arith, to, call.still)))) (so_far.each t from (omega (arith, to, call.still)));
    others = λ t f apart from to. call.kept t f (omega (arith, to, call.still)) ∙ so_far.others t f apart from (omega (arith, to, call.still));
  }

  -- a run on the same file behind it
  pub joined : (file : ℕ) (P : FileState → Type 0) (old mid new : D) → Through moment past file P old mid → Through moment past file P mid new → Through moment past file P old new
  joined file P old mid new first second = record {
    later = omega (arith, first.later, second.later);
    kept = λ t f le. second.kept t f (omega (arith, le, first.later)) ∙ first.kept t f le;
    each = λ t from to. ⊎_elim
        (λ after. second.each t (omega (arith, after)) to)
        (λ before. subst P (sym (second.kept t file before)) (first.each t from before))
        (cases_lt (moment mid) t);
    others = λ t f apart from to. ⊎_elim
        (λ after. second.others t f apart (omega (arith, after)) to ∙ first.others (moment mid) f apart first.later (omega arith))
        (λ before. second.kept t f before ∙ first.others t f apart from before)
        (cases_lt (moment mid) t);
  }

  -- what held of the file at each moment may be said more weakly
  pub through_weaker : (file : ℕ) (P Q : FileState → Type 0) (old new : D) → ((s : FileState) → P s → Q s) → Through moment past file P old new → Through moment past file Q old new
  through_weaker file P Q old new weaker through = record { later = through.later; kept = through.kept; each = λ t from to. weaker (past new t file) (through.each t from to); others = through.others }

  -- the file after the run
  pub through_now : (file : ℕ) (P : FileState → Type 0) (old new : D) → Through moment past file P old new → P (now new file)
  through_now file P old new through = subst P (present new file) (through.each (moment new) through.later (omega arith))

  -- another file after the run
  pub others_now : (file : ℕ) (P : FileState → Type 0) (old new : D) → Through moment past file P old new → (f : ℕ) → f ≢ file → now new f ≡ now old f
  others_now file P old new through f apart = sym (present new f) ∙ through.others (moment new) f apart through.later (omega arith) ∙ present old f

  -- A call at which the moment stood still has changed nothing.
  pub still_same : (old new : D) → Elapses moment past old new → moment new ≡ moment old → (f : ℕ) → now new f ≡ now old f
  still_same old new call still f = sym (present new f) ∙ ap (λ n. past new n f) still ∙ call.kept (moment old) f (omega arith) ∙ present old f

  -- A run on one file, of which P says what held: of that file what the run says, of the others what held before.
  pub through_all : (file : ℕ) (Q : FileState → Type 0) (P : ℕ → FileState → Type 0) (old new : D) → Through moment past file Q old new → ((s : FileState) → Q s → P file s) → ((f : ℕ) → f ≢ file → P f (now old f)) → ThroughAll moment past P old new
  through_all file Q P old new through own rest = record {
    later = through.later;
    kept = through.kept;
    each = λ t f from to. ⊎_elim
        (λ same. subst (λ n. P n (past new t n)) (sym same.1) (own (past new t file) (through.each t from to)))
        (λ apart. subst (P f) (sym (through.others t f apart.1 from to ∙ present old f)) (rest f apart.1))
        (eqb_tells f file);
  }

  -- before the first call, of which P says what holds
  pub all_started : (P : ℕ → FileState → Type 0) (d : D) → ((f : ℕ) → P f (now d f)) → ThroughAll moment past P d d
  all_started P d here = record {
    later = omega arith;
    kept = λ t f le. refl;
    each = λ t f from to. subst (P f) (sym (ap (λ n. past d n f) (omega (arith, from, to)) ∙ present d f)) (here f);
  }

  -- a call that changes nothing
  pub all_rested : (P : ℕ → FileState → Type 0) (old mid new : D) → ThroughAll moment past P old mid → ChangesNothing moment past now mid new → ThroughAll moment past P old new
  all_rested P old mid new so_far call = record {
    later = omega (arith, so_far.later, call.still);
    kept = λ t f le. call.kept t f (omega (arith, le, so_far.later)) ∙ so_far.kept t f le;
    each = λ t f from to. subst (P f) (sym (call.kept t f (omega (arith, to, call.still)))) (so_far.each t f from (omega (arith, to, call.still)));
  }

  -- one call more, on whichever files, and so a crash
  pub all_goes_on : (P : ℕ → FileState → Type 0) (old mid new : D) → ThroughAll moment past P old mid → Elapses moment past mid new → ((f : ℕ) → P f (now new f)) → ThroughAll moment past P old new
  all_goes_on P old mid new so_far call here = record {
    later = omega (arith, so_far.later, call.later);
    kept = λ t f le. call.kept t f (omega (arith, le, so_far.later)) ∙ so_far.kept t f le;
    each = λ t f from to. ⊎_elim
        (λ after. subst (P f) (sym (ap (λ n. past new n f) (omega (arith, after, to, call.by_one)) ∙ present new f)) (here f))
        (λ before. subst (P f) (sym (call.kept t f before)) (so_far.each t f from before))
        (cases_lt (moment mid) t);
  }

  -- each file after the run
  pub all_now : (P : ℕ → FileState → Type 0) (old new : D) → ThroughAll moment past P old new → (f : ℕ) → P f (now new f)
  all_now P old new through f = subst (P f) (present new f) (through.each (moment new) f through.later (omega arith))

  -- a run behind a run, on whichever files
  pub all_joined : (P : ℕ → FileState → Type 0) (old mid new : D) → ThroughAll moment past P old mid → ThroughAll moment past P mid new → ThroughAll moment past P old new
  all_joined P old mid new first second = record {
    later = omega (arith, first.later, second.later);
    kept = λ t f le. second.kept t f (omega (arith, le, first.later)) ∙ first.kept t f le;
    each = λ t f from to. ⊎_elim
        (λ after. second.each t f (omega (arith, after)) to)
        (λ before. subst (P f) (sym (second.kept t f before)) (first.each t f from before))
        (cases_lt (moment mid) t);
  }

  -- What a crash at a moment of the run might have left has Q of each file, where P says so of each image.
  pub all_left : (P : ℕ → FileState → Type 0) (Q : ℕ → List ℕ → Type 0) (old new : D) → ThroughAll moment past P old new → ((f : ℕ) (s : FileState) (image : List ℕ) → P f s → IsImage s image → Q f image)
      → (image : ℕ → List ℕ) → Left (past new) (moment old) (moment new) image → (f : ℕ) → Q f (image f)
  all_left P Q old new through each image left f = each f (past new left.0 f) (image f) (through.each left.0 f left.1 left.2) (left.3 f)

-- What a crash from a to c might have left, it might have left from a to b or from b to c.
pub left_splits : (past : ℕ → ℕ → FileState) (a b c : ℕ) (image : ℕ → List ℕ) → Left past a c image → Left past a b image ⊎ Left past b c image
left_splits past a b c image left = ⊎_elim
    (λ after. inr (left.0, omega (arith, after), left.2, left.3))
    (λ before. inl (left.0, left.1, before, left.3))
    (cases_lt b left.0)

-- What might have been left by then is the same ever after.
pub left_stays : (old new : ℕ → ℕ → FileState) (now a b : ℕ) (image : ℕ → List ℕ) → b ≤ now → ((t f : ℕ) → t ≤ now → new t f ≡ old t f) → Left new a b image → Left old a b image
left_stays old new now a b image past kept left = (left.0, left.1, left.2, λ f. subst (λ (s : FileState). IsImage s (image f)) (kept left.0 f (omega (arith, left.2, past))) (left.3 f))
