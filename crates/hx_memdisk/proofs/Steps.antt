-- One more call in the record, and what it makes of the files.
use Rattle.std.proofs.Common.{◌≡◌, ◌≢◌, ◌<◌, ◌≤◌, ℕ, ◌+◌, Bool, true, false, List, [], ◌∷◌, ◌++◌, length, take, get_or, set, refl, sym, ◌∙◌, ap, subst, arith, length-append, ⊎_elim, eqb, None, below_more}
use Rattle.std.proofs.lemmas.List.{take-append-le, get_or-set_same, get_or-set_other, get_or_append_left, get_or_push}
use Rattle.std.proofs.lemmas.Bool.{eq-eqb}
use Rattle.std.proofs.lemmas.Bool.Decides.{nat_tests, eqb_tells}
use Rattle.hx_disk.specs.File.{FileState}
use Rattle.hx_memdisk.specs.Event.{Event, Writes, Cuts, Syncs, SetsMtime, Crashes}
use Rattle.hx_memdisk.specs.Kept.{IsAfter, stat_of}
use Rattle.hx_memdisk.specs.Replay.{after, write_after, cut_after, sync_after, mtime_after, crash_after, no_file, replayed-nil, replayed-push, file_after}
use Rattle.hx_memdisk.specs.declared.kept.Kept.{Kept}

-- the call is on this file
abbrev pub IsOn : ℕ → Event → Type 0
IsOn file (Writes number at bytes ok mtime) = file ≡ number
IsOn file (Cuts number len ok mtime) = file ≡ number
IsOn file (Syncs number ok) = file ≡ number
IsOn file (SetsMtime number mtime ok) = file ≡ number
IsOn file (Crashes pick) = ⊥

not_eqb : (a b : ℕ) → (a ≡ b → ⊥) → eqb a b ≡ false
not_eqb a b apart = grind (arith, nat_tests)

pub after_other : (f file : ℕ) (call : Event) (s : FileState) → IsOn file call → f ≢ file → after f call s ≡ s
unfolding after
after_other f file (Writes number at bytes ok mtime) s on apart = rw (not_eqb f number (λ e. apart (e ∙ sym on)))
after_other f file (Cuts number len ok mtime) s on apart = rw (not_eqb f number (λ e. apart (e ∙ sym on)))
after_other f file (Syncs number ok) s on apart = rw (not_eqb f number (λ e. apart (e ∙ sym on)))
after_other f file (SetsMtime number mtime ok) s on apart = rw (not_eqb f number (λ e. apart (e ∙ sym on)))
after_other f file (Crashes pick) s on apart = absurd on

-- a call on this file
pub after_write : (f file at mtime : ℕ) (bytes : List ℕ) (ok : Bool) (s : FileState) → f ≡ file → after f (Writes file at bytes ok mtime) s ≡ write_after at bytes ok mtime s
unfolding after
after_write f file at mtime bytes ok s on = rw (eq-eqb f file on)

pub after_cut : (f file len mtime : ℕ) (ok : Bool) (s : FileState) → f ≡ file → after f (Cuts file len ok mtime) s ≡ cut_after len ok mtime s
unfolding after
after_cut f file len mtime ok s on = rw (eq-eqb f file on)

pub after_sync : (f file : ℕ) (ok : Bool) (s : FileState) → f ≡ file → after f (Syncs file ok) s ≡ sync_after ok s
unfolding after
after_sync f file ok s on = rw (eq-eqb f file on)

pub after_mtime : (f file mtime : ℕ) (ok : Bool) (s : FileState) → f ≡ file → after f (SetsMtime file mtime ok) s ≡ mtime_after mtime ok s
unfolding after
after_mtime f file mtime ok s on = rw (eq-eqb f file on)

pub after_crash : (f pick : ℕ) (s : FileState) → after f (Crashes pick) s ≡ crash_after pick s
unfolding after
after_crash f pick s = refl

module _ (calls new : List Event) (call : Event) (more : new ≡ calls ++ call ∷ []) where
  pub length_new : length new ≡ length calls + 1
  length_new = ap length more ∙ length-append calls (call ∷ [])

  pub take_new : (t : ℕ) → t ≤ length calls → take t new ≡ take t calls
  take_new t le = ap (λ (l : List Event). take t l) more ∙ take-append-le t calls (call ∷ []) le

  pub past_kept : (t f : ℕ) → t ≤ length calls → file_after (take t new) f ≡ file_after (take t calls) f
  past_kept t f le = ap (λ (l : List Event). file_after l f) (take_new t le)

  pub now_after : (f : ℕ) → file_after new f ≡ after f call (file_after calls f)
  now_after f = ap (λ (l : List Event). file_after l f) more ∙ replayed-push f no_file calls call

  pub others_same : (file : ℕ) → IsOn file call → (f : ℕ) → f ≢ file → file_after new f ≡ file_after calls f
  others_same file on f apart = now_after f ∙ after_other f file call (file_after calls f) on apart

  -- a file that the call isn't on
  pub other_after : (file f : ℕ) (kept : Kept) → IsOn file call → f ≢ file → IsAfter calls f kept → IsAfter new f kept
  other_after file f kept on apart was =
      let same : file_after new f ≡ file_after calls f = others_same file on f apart in
      record {
        reading = was.reading ∙ ap (λ (s : FileState). s.reading) (sym same);
        stat = was.stat ∙ ap (λ (s : FileState). s.stat) (sym same);
        stable = was.stable ∙ ap (λ (s : FileState). s.stable) (sym same);
      }

  -- the file that it is on
  pub own_after : (f : ℕ) (kept : Kept) (state : FileState) → after f call (file_after calls f) ≡ state
      → kept.bytes.items ≡ state.reading → stat_of kept ≡ state.stat → kept.stable.items ≡ state.stable → IsAfter new f kept
  own_after f kept state is reading stat stable =
      let now : file_after new f ≡ state = now_after f ∙ is in
      record {
        reading = reading ∙ ap (λ (s : FileState). s.reading) (sym now);
        stat = stat ∙ ap (λ (s : FileState). s.stat) (sym now);
        stable = stable ∙ ap (λ (s : FileState). s.stable) (sym now);
      }

  -- the place that was changed, and every other one
  pub all_after : (file : ℕ) (files : List Kept) (kept : Kept) → IsOn file call → file < length files → IsAfter new file kept
      → ((f : ℕ) (d : Kept) → f < 384 → IsAfter calls f (get_or files f d)) → (f : ℕ) (d : Kept) → f < 384 → IsAfter new f (get_or (set files file kept) f d)
  all_after file files kept on within own before f d known = ⊎_elim
      (λ (same : (eqb f file ≡ true) × (f ≡ file)).
      let place : get_or (set files file kept) f d ≡ kept = ap (λ n. get_or (set files file kept) n d) same.1 ∙ get_or-set_same files file kept d within in
      subst (λ (k : Kept). IsAfter new f k) (sym place) (subst (λ n. IsAfter new n kept) (sym same.1) own))
      (λ (other : (eqb f file ≡ false) × (f ≢ file)).
      subst (λ (k : Kept). IsAfter new f k) (sym (get_or-set_other files file f kept d other.1)) (other_after file f (get_or files f d) on other.1 (before f d known)))
      (eqb_tells f file)

-- a file of a new disk
pub fresh : (f : ℕ) (k : Kept) → k.bytes.items ≡ [] → stat_of k ≡ None → k.stable.items ≡ [] → IsAfter [] f k
fresh f k bytes absent stable =
    let nothing : file_after [] f ≡ no_file = replayed-nil f no_file in
    record {
      reading = bytes ∙ ap (λ (s : FileState). s.reading) (sym nothing);
      stat = absent ∙ ap (λ (s : FileState). s.stat) (sym nothing);
      stable = stable ∙ ap (λ (s : FileState). s.stable) (sym nothing);
    }

-- one more file
pub each_more : (P : ℕ → Kept → Type 0) (i : ℕ) (left new : List Kept) (kept : Kept) → length left ≡ i → new ≡ left ++ kept ∷ [] → P i kept → ((f : ℕ) (e : Kept) → f < i → P f (get_or left f e)) → (f : ℕ) (e : Kept) → f < i + 1 → P f (get_or new f e)
each_more P i left new kept long more has before f e below =
    subst (λ (l : List Kept). P f (get_or l f e)) (sym more)
    (below_more (λ k. P k (get_or (left ++ kept ∷ []) k e)) i
    (λ k lt. subst (P k) (sym (get_or_append_left left (kept ∷ []) e k (omega (arith, lt, long)))) (before k e lt))
    (subst (P i) (sym (get_or_push left kept e i long)) has) f below)
