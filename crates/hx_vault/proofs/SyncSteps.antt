-- One sync more of a run of syncs.
use Rattle.std.specs.Prelude.{◌≡◌, ◌≢◌, ◌≤◌, ◌<◌, ℕ, ◌+◌, Bool, true, IsTrue, List, refl}
use Rattle.std.proofs.Common.{sym, ◌∙◌, ap, subst, ⊎_elim, arith}
use Rattle.std.proofs.lemmas.Bool.Decides.{eqb_tells}
use Rattle.hx_disk.specs.File.{FileState, IsImage, IsSound, IsAtRest, Synced}
use Rattle.hx_disk.specs.Disk.{Room, ChangesOnly, ThroughAll, UsesCalls}
use Rattle.hx_disk.specs.Images.{rest_settled}
use Rattle.hx_disk.specs.Runs.{all_started, all_goes_on, all_now}
use Rattle.hx_vault.specs.Barriers.{IsSomeState, OnlySynced}

-- after the sync of the first n files
pub record AreSynced {D : Type 0} (tells : Bool) (moment : D → ℕ) (past : D → ℕ → ℕ → FileState) (now : D → ℕ → FileState) (room : D → Room) (n : ℕ) (old new : D) : Type 0 where
  pub rest : IsTrue tells → (f : ℕ) → f < n → IsAtRest (now new f)
  pub readings : IsTrue tells → (f : ℕ) → (now new f).reading ≡ (now old f).reading
  pub stats : IsTrue tells → (f : ℕ) → (now new f).stat ≡ (now old f).stat
  pub each : IsTrue tells → ThroughAll moment past (OnlySynced n (now old)) old new
  pub others : (f : ℕ) → n ≤ f → now new f ≡ now old f
  pub runs : ThroughAll moment past IsSomeState old new
  pub room_used : UsesCalls n (room old) (room new)

module _ {D : Type 0} (tells : Bool) (moment : D → ℕ) (past : D → ℕ → ℕ → FileState) (now : D → ℕ → FileState) (room : D → Room)
    (present : (d : D) (f : ℕ) → past d (moment d) f ≡ now d f) (sound : (d : D) (t f : ℕ) → IsTrue tells → IsSound (past d t f)) where
  pub none_synced : (d : D) → AreSynced tells moment past now room 0 d d
  none_synced d = record {
    rest = λ is f below. absurd (omega (arith, below));
    readings = λ is f. refl;
    stats = λ is f. refl;
    each = λ is. all_started moment past now present (OnlySynced 0 (now d)) d (λ f. record { reading = refl; stat = refl; no_new = λ image i. i; user = λ from. refl });
    others = λ f from. refl;
    runs = all_started moment past now present IsSomeState d (λ f. tt);
    room_used = record { file = refl; end = refl; calls = omega arith; no_more = omega arith };
  }

  -- the same file, or one that the sync didn't touch
  by_file : (file : ℕ) (P : ℕ → Type 0) → P file → ((f : ℕ) → f ≢ file → P f) → (f : ℕ) → P f
  by_file file P own rest f = ⊎_elim (λ same. subst P (sym same.1) own) (λ apart. rest f apart.1) (eqb_tells f file)

  used_more : (n : ℕ) (a b c : Room) → UsesCalls n a b → UsesCalls 1 b c → UsesCalls (n + 1) a c
  used_more n a b c first second = record { file = second.file ∙ first.file; end = second.end ∙ first.end; calls = omega (arith, first.calls, second.calls); no_more = omega (arith, first.no_more, second.no_more) }

  -- more files may be synced
  wider : (n m : ℕ) (before : ℕ → FileState) (f : ℕ) (file : FileState) → n ≤ m → OnlySynced n before f file → OnlySynced m before f file
  wider n m before f file le was = record { reading = was.reading; stat = was.stat; no_new = was.no_new; user = λ from. was.user (omega (arith, from, le)) }

  pub all_wider : (n m : ℕ) (old new : D) → n ≤ m → ThroughAll moment past (OnlySynced n (now old)) old new → ThroughAll moment past (OnlySynced m (now old)) old new
  all_wider n m old new le through = record { later = through.later; kept = through.kept; each = λ t f from to. wider n m (now old) f (past new t f) le (through.each t f from to) }

  -- what is read of a synced file could have been left before
  settled : (n : ℕ) (old mid new : D) → IsTrue tells → OnlySynced n (now old) n (now mid n) → Synced (now mid n) (now new n) → OnlySynced (n + 1) (now old) n (now new n)
  settled n old mid new is was synced = record {
    reading = synced.reading ∙ was.reading;
    stat = synced.stat ∙ was.stat;
    no_new = λ image i. was.no_new image (subst (λ (x : List ℕ). IsImage (now mid n) x) (sym (rest_settled (now new n) synced.rest image i ∙ synced.reading)) (subst IsSound (present mid n) (sound mid (moment mid) n is)).reading);
    user = λ from. absurd (omega (arith, from));
  }

  -- each file after the sync of one more
  each_synced : (n : ℕ) (old mid new : D) → IsTrue tells → ThroughAll moment past (OnlySynced n (now old)) old mid → ((f : ℕ) → f ≢ n → now new f ≡ now mid f) → Synced (now mid n) (now new n) → (f : ℕ) → OnlySynced (n + 1) (now old) f (now new f)
  each_synced n old mid new is so_far others synced = by_file n (λ f. OnlySynced (n + 1) (now old) f (now new f))
      (settled n old mid new is (all_now moment past now present (OnlySynced n (now old)) old mid so_far n) synced)
      (λ f apart. subst (OnlySynced (n + 1) (now old) f) (sym (others f apart)) (wider n (n + 1) (now old) f (now mid f) (omega arith) (all_now moment past now present (OnlySynced n (now old)) old mid so_far f)))

  pub one_synced : (n : ℕ) (old mid new : D) → AreSynced tells moment past now room n old mid → ChangesOnly moment past now n mid new → UsesCalls 1 (room mid) (room new) → (IsTrue tells → Synced (now mid n) (now new n))
      → AreSynced tells moment past now room (n + 1) old new
  one_synced n old mid new so_far only used ok = record {
    rest = λ is. by_file n (λ f. f < n + 1 → IsAtRest (now new f)) (λ below. (ok is).rest) (λ f apart below. subst IsAtRest (sym (only.others f apart)) (so_far.rest is f (omega (arith, apart, below))));
    readings = λ is. by_file n (λ f. (now new f).reading ≡ (now old f).reading) ((ok is).reading ∙ so_far.readings is n) (λ f apart. ap (λ (s : FileState). s.reading) (only.others f apart) ∙ so_far.readings is f);
    stats = λ is. by_file n (λ f. (now new f).stat ≡ (now old f).stat) ((ok is).stat ∙ so_far.stats is n) (λ f apart. ap (λ (s : FileState). s.stat) (only.others f apart) ∙ so_far.stats is f);
    each = λ is. all_goes_on moment past now present (OnlySynced (n + 1) (now old)) old mid new (all_wider n (n + 1) old mid (omega arith) (so_far.each is)) only.time (each_synced n old mid new is (so_far.each is) only.others (ok is));
    others = λ f from. only.others f (omega (arith, from)) ∙ so_far.others f (omega (arith, from));
    runs = all_goes_on moment past now present IsSomeState old mid new so_far.runs only.time (λ f. tt);
    room_used = used_more n (room old) (room mid) (room new) so_far.room_used used;
  }

  -- what a barrier that failed at the file n has kept
  pub one_failed : (n : ℕ) (old mid new : D) → AreSynced tells moment past now room n old mid → ChangesOnly moment past now n mid new → UsesCalls 1 (room mid) (room new) → (IsTrue tells → now new n ≡ now mid n)
      → (IsTrue tells → (f : ℕ) → now new f ≡ now mid f) × ThroughAll moment past IsSomeState old new × UsesCalls (n + 1) (room old) (room new)
      × (IsTrue tells → ThroughAll moment past (OnlySynced (n + 1) (now old)) old new) × ((f : ℕ) → n + 1 ≤ f → now new f ≡ now old f)
  one_failed n old mid new so_far only used err =
      let same : IsTrue tells → (f : ℕ) → now new f ≡ now mid f = λ is. by_file n (λ f. now new f ≡ now mid f) (err is) (λ f apart. only.others f apart) in (
        same,
        all_goes_on moment past now present IsSomeState old mid new so_far.runs only.time (λ f. tt),
        used_more n (room old) (room mid) (room new) so_far.room_used used,
        (λ is. all_goes_on moment past now present (OnlySynced (n + 1) (now old)) old mid new (all_wider n (n + 1) old mid (omega arith) (so_far.each is)) only.time
            (λ f. subst (OnlySynced (n + 1) (now old) f) (sym (same is f)) (wider n (n + 1) (now old) f (now mid f) (omega arith) (all_now moment past now present (OnlySynced n (now old)) old mid (so_far.each is) f)))),
        (λ f from. only.others f (omega (arith, from)) ∙ so_far.others f (omega (arith, from))),
      )
