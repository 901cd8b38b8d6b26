-- What is kept of a resource, and the deeds that it stands for.
use Rattle.std.specs.Prelude.{ℕ, ◌≡◌, ◌≤◌, Bool, true, List, [], ◌∷◌, length, Option, is_some, option_map, IfSome}
use Rattle.hx_events.specs.declared.backup.Backup.{Backup}
use Rattle.hx_rules.specs.Entries.{Deed}
use Rattle.hx_rules.specs.Versions.{Version, version, trail_of, version_at, last_version, last_content, trail, versions}
use Rattle.hx_rules.specs.Copies.{registered, mark, kept}
use Rattle.hx_rules.specs.Saves.{save_steps}
use Rattle.hx_rules.specs.Backups.{done, begun, halted, opened, faded, safe, write_failed}
use Rattle.hx_seq.specs.Keeps.{Keeps}
use Rattle.hx_copy.specs.Copies.{Place}
use Rattle.hx_copy.specs.Copies.{Copy}
use Rattle.hx_resource.specs.Kept.{Kept, is_safe_to}

-- a version whose size is its content's length
abbrev pub whole : List ℕ → Version
whole content = version content (length content)

-- the place's id is one of these versions', and its content that version's
pub record IsVersion (last : ℕ) (vs : List Version) (p : Place) : Type 0 where
  pub id : p.id ≤ last
  pub content : version_at p.id vs ≡ whole p.content

abbrev pub AreVersions : ℕ → List Version → List Place → Type 0
AreVersions last vs [] = Unit {0}
AreVersions last vs (p ∷ ps) = IsVersion last vs p × AreVersions last vs ps

abbrev pub ids : List Place → List ℕ
ids [] = []
ids (p ∷ ps) = p.id ∷ ids ps

pub record FitsCopy (restored : Option Backup) (ds : List Deed) (c : Copy) : Type 0 where
  pub version : c.version ≡ last_version restored ds
  pub trail : trail restored ds ≡ trail_of (c.here.id ∷ ids c.back) (ids c.ahead)
  pub mark : c.mark ≡ mark restored ds
  pub base : c.base ≡ kept restored ds
  pub now : last_content restored ds ≡ whole c.here.content
  pub here : IsVersion (last_version restored ds) (versions restored ds) c.here
  pub back : AreVersions (last_version restored ds) (versions restored ds) c.back
  pub ahead : AreVersions (last_version restored ds) (versions restored ds) c.ahead

-- what is kept is what these deeds left
pub record Fits (restored : Option Backup) (guarded : Bool) (ds : List Deed) (s : Kept) : Type 0 where
  pub last : s.last ≡ last_version restored ds
  pub there : is_some s.copy ≡ registered restored ds
  pub copy : IfSome s.copy (FitsCopy restored ds)
  pub seq : Keeps (save_steps restored ds) s.seq
  pub run : IfSome s.seq.run (λ run. (is_some s.copy ≡ true) × IsVersion (last_version restored ds) (versions restored ds) (record { id = run.version; content = s.saving }))
  pub begun : s.begun ≡ begun restored guarded ds
  pub done : s.done ≡ option_map (λ b. b.version) (done restored ds)
  pub safe : (v : ℕ) → is_safe_to v s.safe ≡ safe v ds
  pub halted : s.halted ≡ halted ds
  pub opened : s.opened ≡ opened restored ds
  pub faded : s.faded ≡ faded ds
  pub write_failed : s.write_failed ≡ write_failed ds
