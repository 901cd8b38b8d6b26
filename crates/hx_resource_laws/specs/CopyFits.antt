-- A copy after each outcome fits the longer deeds.
use Rattle.std.specs.Prelude.{ℕ, ◌≡◌, ◌+◌, ◌-◌, ◌==◌, ◌≤◌, not, true, false, ◌&&◌, List, [], ◌∷◌, ◌++◌, length, take, drop, Option, Some, None, is_some, IfSome, if◌then◌else◌, refl}
use Rattle.std.proofs.Common.{arith, ap, sym, ◌∙◌, subst, length-append, length-take, length-drop, cond}
use Rattle.std.proofs.lemmas.Bool.Decides.{nat_tests}
use Rattle.hx_etag.specs.declared.stat.Stat.{Stat}
use Rattle.hx_etag.specs.Conflicts.{newer_of}
use Rattle.hx_events.specs.declared.backup.Backup.{Backup}
use Rattle.hx_events.specs.declared.event.Command.TheVariants.{Edit}
use Rattle.hx_events.specs.declared.event.Event.{Event}
use Rattle.hx_events.specs.declared.event.Event.TheVariants.{Act}
use Rattle.hx_events.specs.declared.outcome.Outcome.{Outcome}
use Rattle.hx_events.specs.declared.outcome.Outcome.TheVariants.{Opened, Created, Edited, Undone, Redone, Reverted, Closed, Saved}
use Rattle.hx_rules.specs.Entries.{Deed, deed}
use Rattle.hx_rules.specs.Stats.{newer_found}
use Rattle.hx_rules.specs.Versions.{Version, version, replaced, edited, trail_of, at_place, moved_back, moved_on, version_at, last_version, last_content, trail, alternative, versions}
use Rattle.hx_rules.specs.Copies.{registered, registered_after, mark, dirty, is_number}
use Rattle.hx_rules_laws.specs.TrailLaws.{last_version_counts}
use Rattle.hx_copy.specs.Copies.{Place}
use Rattle.hx_copy.specs.Copies.{Copy, copy_of, place_of, new_copy, undone_copy, redone_copy, reverted_copy, saved_copy}
use Rattle.hx_resource.specs.Kept.{copy_after, edited_by, dirty_now, content_in}
use Rattle.hx_resource_laws.specs.Fits.{whole, IsVersion, AreVersions, ids, FitsCopy}

-- an older version stays where it is
pub old_version : (last : ℕ) (v : Version) (vs : List Version) (p : Place) → length vs ≡ last → IsVersion last vs p → IsVersion (last + 1) (v ∷ vs) p
old_version last v vs p is old = record {
  id = omega (arith, old.id);
  content = ap (λ b. cond b v (version_at p.id vs)) (other (length vs) p.id (omega (arith, old.id, is))) ∙ old.content;
}
  where
    other : (n i : ℕ) → i ≤ n → (n + 1 == i) ≡ false
    other n i le = grind (arith, nat_tests)

pub old_versions : (last : ℕ) (v : Version) (vs : List Version) (ps : List Place) → length vs ≡ last → AreVersions last vs ps → AreVersions (last + 1) (v ∷ vs) ps
old_versions last v vs [] is all = tt
old_versions last v vs (p ∷ ps) is all = (old_version last v vs p is all.0, old_versions last v vs ps is all.1)

pub new_version : (last : ℕ) (v : Version) (vs : List Version) (p : Place) → length vs ≡ last → p.id ≡ last + 1 → v ≡ whole p.content → IsVersion (last + 1) (v ∷ vs) p
new_version last v vs p is id content = record {
  id = omega (arith, id);
  content = ap (λ b. cond b v (version_at p.id vs)) (same (length vs) p.id (id ∙ ap (λ n. n + 1) (sym is))) ∙ content;
}
  where
    same : (n i : ℕ) → i ≡ n + 1 → (n + 1 == i) ≡ true
    same n i e = grind (arith, nat_tests)

replaced_length : (off del : ℕ) (text old : List ℕ) → off + del ≤ length old → length (replaced off del text old) ≡ length old - del + length text
replaced_length off del text old le = omega (arith, length-append (take off old ++ text) (drop (off + del) old), length-append (take off old) text, length-take off old, length-drop (off + del) old)

-- an edit within the content; no other event is one
abbrev pub FitsEdit : Event → ℕ → Type 0
FitsEdit (Act (Edit c off del text)) size = off + del ≤ size
FitsEdit _ size = ⊥

edited_whole : (event : Event) (c : Copy) → FitsEdit event (length c.here.content) → edited event (whole c.here.content) ≡ whole (edited_by event c).here.content
edited_whole (Act (Edit r off del text)) c le = ap (version (replaced off del text c.here.content)) (sym (replaced_length off del text c.here.content le))
edited_whole (Act _) c le = absurd le
edited_whole _ c le = absurd le

-- what an outcome asks of what was read and of the edit
abbrev pub FitsContent : Event → List ℕ → Outcome → Option Copy → Type 0
FitsContent event content (Opened s) was = length content ≡ s.size
FitsContent event content (Reverted s) was = length content ≡ s.size
FitsContent event content (Edited n) was = FitsEdit event (length (content_in was))
FitsContent event content _ was = Unit {0}

module _ (r : Option Backup) (ds : List Deed) (place : ℕ) (event : Event) (content : List ℕ) where
  abbrev next : Outcome → List Deed
  next outcome = deed place event outcome content ∷ ds

  abbrev last : ℕ
  last = last_version r ds

  counts : length (versions r ds) ≡ last
  counts = last_version_counts r ds

  opened_fits : (s : Stat) → length content ≡ s.size → FitsCopy r (next (Opened s)) (new_copy (last + 1) content (Some s) true)
  opened_fits s size = record {
    version = refl;
    trail = refl;
    mark = refl;
    base = refl;
    now = ap (version content) (sym size);
    here = new_version last _ (versions r ds) (place_of (last + 1) content) counts refl (ap (version content) (sym size));
    back = tt;
    ahead = tt;
  }

  created_fits : (n : ℕ) → FitsCopy r (next (Created n)) (new_copy (last + 1) [] None true)
  created_fits n = record {
    version = refl;
    trail = refl;
    mark = refl;
    base = refl;
    now = refl;
    here = new_version last _ (versions r ds) (place_of (last + 1) []) counts refl refl;
    back = tt;
    ahead = tt;
  }

  reverted_fits : (s : Stat) (c : Copy) → length content ≡ s.size → FitsCopy r ds c → FitsCopy r (next (Reverted s)) (reverted_copy content s c)
  reverted_fits s c size fits = record {
    version = ap (λ n. n + 1) fits.version;
    trail = ap (λ n. trail_of ((n + 1) ∷ []) []) (sym fits.version);
    mark = ap (λ n. Some (n + 1)) fits.version;
    base = ap (λ b. Some (newer_of b s)) fits.base;
    now = ap (version content) (sym size);
    here = new_version last _ (versions r ds) (place_of (c.version + 1) content) counts (ap (λ n. n + 1) fits.version) (ap (version content) (sym size));
    back = tt;
    ahead = tt;
  }

  edited_fits : (n : ℕ) (c : Copy) → FitsEdit event (length c.here.content) → FitsCopy r ds c → FitsCopy r (next (Edited n)) (edited_by event c)
  edited_fits n c le fits = subst (λ (d : Copy). FitsCopy r (next (Edited n)) d) (is event c le) (record {
    version = ap (λ n. n + 1) fits.version;
    trail = ap (λ t. trail_of ((last + 1) ∷ t.back) []) fits.trail ∙ ap (λ n. trail_of ((n + 1) ∷ c.here.id ∷ ids c.back) []) (sym fits.version);
    mark = fits.mark;
    base = fits.base;
    now = made;
    here = new_version last _ (versions r ds) (place_of (c.version + 1) (edited_by event c).here.content) counts (ap (λ n. n + 1) fits.version) made;
    back = (old_version last _ (versions r ds) c.here counts fits.here, old_versions last _ (versions r ds) c.back counts fits.back);
    ahead = tt;
  })
    where
      is : (event : Event) (c : Copy) → FitsEdit event (length c.here.content) → copy_of (c.version + 1) (place_of (c.version + 1) (edited_by event c).here.content) (c.here ∷ c.back) [] c.mark c.base ≡ edited_by event c
      is (Act (Edit r off del text)) c le = refl
      is (Act _) c le = absurd le
      is _ c le = absurd le

      made : edited event (last_content r ds) ≡ whole (edited_by event c).here.content
      made = ap (edited event) fits.now ∙ edited_whole event c le

  undone_fits : (n : ℕ) (c : Copy) → FitsCopy r ds c → FitsCopy r (next (Undone n)) (undone_copy c)
  undone_fits n c fits = step c.back fits.trail fits.back
    where
      step : (bs : List Place) → trail r ds ≡ trail_of (c.here.id ∷ ids bs) (ids c.ahead) → AreVersions last (versions r ds) bs → FitsCopy r (next (Undone n)) (undone_copy (copy_of c.version c.here bs c.ahead c.mark c.base))
      step [] is old =
          let back : version_at (at_place (moved_back (trail r ds))) (versions r ds) ≡ whole c.here.content = ap (λ t. version_at (at_place (moved_back t)) (versions r ds)) is ∙ fits.here.content in
          record {
            version = ap (λ n. n + 1) fits.version;
            trail = ap moved_back is;
            mark = fits.mark;
            base = fits.base;
            now = back;
            here = old_version last _ (versions r ds) c.here counts fits.here;
            back = tt;
            ahead = old_versions last _ (versions r ds) c.ahead counts fits.ahead;
          }
      step (p ∷ ps) is old =
          let back : version_at (at_place (moved_back (trail r ds))) (versions r ds) ≡ whole p.content = ap (λ t. version_at (at_place (moved_back t)) (versions r ds)) is ∙ old.0.content in
          record {
            version = ap (λ n. n + 1) fits.version;
            trail = ap moved_back is;
            mark = fits.mark;
            base = fits.base;
            now = back;
            here = old_version last _ (versions r ds) p counts old.0;
            back = old_versions last _ (versions r ds) ps counts old.1;
            ahead = (old_version last _ (versions r ds) c.here counts fits.here, old_versions last _ (versions r ds) c.ahead counts fits.ahead);
          }

  redone_fits : (n : ℕ) (c : Copy) → FitsCopy r ds c → FitsCopy r (next (Redone n)) (redone_copy c)
  redone_fits n c fits = step c.ahead fits.trail fits.ahead
    where
      step : (next_ones : List Place) → trail r ds ≡ trail_of (c.here.id ∷ ids c.back) (ids next_ones) → AreVersions last (versions r ds) next_ones → FitsCopy r (next (Redone n)) (redone_copy (copy_of c.version c.here c.back next_ones c.mark c.base))
      step [] is old =
          let back : version_at (at_place (moved_on (trail r ds))) (versions r ds) ≡ whole c.here.content = ap (λ t. version_at (at_place (moved_on t)) (versions r ds)) is ∙ fits.here.content in
          record {
            version = ap (λ n. n + 1) fits.version;
            trail = ap moved_on is;
            mark = fits.mark;
            base = fits.base;
            now = back;
            here = old_version last _ (versions r ds) c.here counts fits.here;
            back = old_versions last _ (versions r ds) c.back counts fits.back;
            ahead = tt;
          }
      step (p ∷ ps) is old =
          let back : version_at (at_place (moved_on (trail r ds))) (versions r ds) ≡ whole p.content = ap (λ t. version_at (at_place (moved_on t)) (versions r ds)) is ∙ old.0.content in
          record {
            version = ap (λ n. n + 1) fits.version;
            trail = ap moved_on is;
            mark = fits.mark;
            base = fits.base;
            now = back;
            here = old_version last _ (versions r ds) p counts old.0;
            back = (old_version last _ (versions r ds) c.here counts fits.here, old_versions last _ (versions r ds) c.back counts fits.back);
            ahead = old_versions last _ (versions r ds) ps counts old.1;
          }

  saved_fits : (n : ℕ) (x : Option Stat) (c : Copy) → FitsCopy r ds c → FitsCopy r (next (Saved n x)) (saved_copy n x c)
  saved_fits n x c fits = record {
    version = fits.version;
    trail = fits.trail;
    mark =
        ap (λ m. if n == c.version then Some c.here.id else m) fits.mark ∙
        (ap (λ k. if n == k then Some c.here.id else mark r ds) fits.version
        ∙ ap (λ t. if n == last then Some (at_place t) else mark r ds) (sym fits.trail));
    base = ap (λ b. newer_found b x) fits.base;
    now = fits.now;
    here = fits.here;
    back = fits.back;
    ahead = fits.ahead;
  }

  pub copy_fits : (outcome : Outcome) (was : Option Copy) → FitsContent event content outcome was → IfSome was (FitsCopy r ds) → IfSome (copy_after outcome event content (last + 1) was) (FitsCopy r (next outcome))
  copy_fits (Opened s) was asks fits = opened_fits s asks
  copy_fits (Created n) was asks fits = created_fits n
  copy_fits (Edited n) None asks fits = tt
  copy_fits (Edited n) (Some c) asks fits = edited_fits n c asks fits
  copy_fits (Undone n) None asks fits = tt
  copy_fits (Undone n) (Some c) asks fits = undone_fits n c fits
  copy_fits (Redone n) None asks fits = tt
  copy_fits (Redone n) (Some c) asks fits = redone_fits n c fits
  copy_fits (Reverted s) None asks fits = tt
  copy_fits (Reverted s) (Some c) asks fits = reverted_fits s c asks fits
  copy_fits Closed was asks fits = tt
  copy_fits (Saved n x) None asks fits = tt
  copy_fits (Saved n x) (Some c) asks fits = saved_fits n x c fits
  copy_fits _ None asks fits = tt
  copy_fits _ (Some c) asks fits = record { version = fits.version; trail = fits.trail; mark = fits.mark; base = fits.base; now = fits.now; here = fits.here; back = fits.back; ahead = fits.ahead }

pub copy_there : (outcome : Outcome) (event : Event) (content : List ℕ) (n : ℕ) (was : Option Copy) → is_some (copy_after outcome event content n was) ≡ registered_after outcome (is_some was)
copy_there (Opened s) event content n was = refl
copy_there (Created v) event content n was = refl
copy_there (Edited v) event content n None = refl
copy_there (Edited v) event content n (Some c) = refl
copy_there (Undone v) event content n None = refl
copy_there (Undone v) event content n (Some c) = refl
copy_there (Redone v) event content n None = refl
copy_there (Redone v) event content n (Some c) = refl
copy_there (Reverted s) event content n None = refl
copy_there (Reverted s) event content n (Some c) = refl
copy_there Closed event content n was = refl
copy_there (Saved v x) event content n None = refl
copy_there (Saved v x) event content n (Some c) = refl
copy_there _ event content n was = refl

pub dirty_is : (r : Option Backup) (ds : List Deed) (copy : Option Copy) → is_some copy ≡ registered r ds → IfSome copy (FitsCopy r ds) → dirty_now copy ≡ dirty r ds
dirty_is r ds None there fits = ap (λ b. b && not (is_number (alternative r ds) (mark r ds))) there
dirty_is r ds (Some c) there fits =
    ap (λ m. not (is_number c.here.id m)) fits.mark ∙
    (ap (λ t. not (is_number (at_place t) (mark r ds))) (sym fits.trail)
    ∙ ap (λ b. b && not (is_number (alternative r ds) (mark r ds))) there)
