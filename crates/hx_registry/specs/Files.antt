-- Files that are written whole.
use Rattle.std.specs.Prelude.{◌≡◌, ◌≤◌, ℕ, List, length, take, Option, Some, MatchOption, Result, Ok, Err, OnOk, IfOk, refl}
use Rattle.std.proofs.Common.{sym, ◌∙◌, ap, subst, arith}
use Rattle.std.proofs.lemmas.Grind.{common_steps}
use Rattle.hx_etag.specs.declared.stat.Stat.{Stat}
use Rattle.hx_disk.specs.File.{FileState, IsSettled, Wrote, WasCut, SameContent, Synced}
use Rattle.hx_disk.specs.Images.{rest_settled}
use Rattle.hx_disk.specs.Overlay.{overlaid, length-overlaid}

-- the text is read, a crash leaves nothing else, and the time is this one
pub record IsWhole (text : List ℕ) (mtime : ℕ) (s : FileState) : Type 0 where
  pub reading : s.reading ≡ text
  pub settled : IsSettled s
  pub time : MatchOption s.stat ⊥ (λ x. x.mtime ≡ mtime)

-- the text is read, a crash leaves nothing else, and this is the stat
pub record IsSavedAs (text : List ℕ) (found : Option Stat) (s : FileState) : Type 0 where
  pub reading : s.reading ≡ text
  pub settled : IsSettled s
  pub stat : s.stat ≡ found

pub no_shorter : (old text : List ℕ) → length text ≤ length (overlaid old 0 text)
no_shorter old text = omega (arith, length-overlaid old 0 text)

cut_gives : (old text : List ℕ) → take (length text) (overlaid old 0 text) ≡ text
cut_gives old text = grind (arith, common_steps)

pub whole : {E : Type 0} (r : Result Unit E) (text : List ℕ) (mtime : ℕ) (s0 s1 s2 s3 s4 : FileState) → Wrote 0 text s0 s1 → WasCut (length text) s1 s2 → SameContent s2 s3 → s3.stat ≡ Some (record { mtime = mtime; size = length s2.reading })
    → OnOk r (Synced s3 s4) → OnOk r (IsWhole text mtime s4)
whole (Err e) text mtime s0 s1 s2 s3 s4 wrote cut same stat synced = tt
whole (Ok x) text mtime s0 s1 s2 s3 s4 wrote cut same stat synced = record {
  reading = synced.reading ∙ same.reading ∙ cut.reading ∙ ap (take (length text)) wrote.reading ∙ cut_gives s0.reading text;
  settled = rest_settled s4 synced.rest;
  time = subst (λ (x : Option Stat). MatchOption x ⊥ (λ y. y.mtime ≡ mtime)) (sym (synced.stat ∙ stat)) refl;
}

saved_as : (text : List ℕ) (found : Option Stat) (s0 s1 s2 s3 s4 : FileState) → Wrote 0 text s0 s1 → WasCut (length text) s1 s2 → Synced s2 s3 → s4 ≡ s3 → found ≡ s3.stat → IsSavedAs text found s4
saved_as text found s0 s1 s2 s3 s4 wrote cut synced same stat = subst (IsSavedAs text found) (sym same) (record {
  reading = synced.reading ∙ cut.reading ∙ ap (take (length text)) wrote.reading ∙ cut_gives s0.reading text;
  settled = rest_settled s3 synced.rest;
  stat = sym stat;
})

pub saved_if : {E : Type 0} (r : Result (Option Stat) E) (text : List ℕ) (s0 s1 s2 s3 s4 : FileState) → Wrote 0 text s0 s1 → WasCut (length text) s1 s2 → Synced s2 s3 → s4 ≡ s3 → IfOk r (λ found. found ≡ s3.stat) → IfOk r (λ found. IsSavedAs text found s4)
saved_if (Err e) text s0 s1 s2 s3 s4 wrote cut synced same stat = tt
saved_if (Ok found) text s0 s1 s2 s3 s4 wrote cut synced same stat = saved_as text found s0 s1 s2 s3 s4 wrote cut synced same stat
