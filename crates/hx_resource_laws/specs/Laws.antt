-- The laws of what is kept.
use Rattle.std.specs.Prelude.{ℕ, ◌≡◌, Bool, true, List, [], ◌∷◌, Option, None}
use Rattle.hx_events.specs.declared.backup.Backup.{Backup}
use Rattle.hx_events.specs.declared.event.Event.{Event}
use Rattle.hx_events.specs.declared.outcome.Outcome.{Outcome}
use Rattle.hx_rules.specs.Entries.{Deed, deed}
use Rattle.hx_seq.specs.Keeps.{stand_in}
use Rattle.hx_resource.specs.Kept.{Kept, kept_after, kept_at_first}
use Rattle.hx_resource.specs.Rows.{row_kept}
use Rattle.hx_resource.specs.Rooms.{IsRead}
use Rattle.hx_resource_laws.specs.Fits.{Fits}
use Rattle.hx_resource_laws.specs.RowFits.{row_of, row_same}
use Rattle.hx_resource_laws.specs.RowAsks.{row_asks}
use Rattle.hx_resource_laws.specs.StepFits.{fits_after}
use Rattle.hx_resource_laws.specs.Starts.{fits_at_first}

abbrev pub FitsStay : Type 0
FitsStay = (r : Option Backup) (guarded lacks spent : Bool) (ds : List Deed) (place : ℕ) (event : Event) (outcome : Outcome) (content : List ℕ) (s : Kept)
    → Fits r guarded ds s → IsRead outcome content → row_kept guarded lacks spent s event outcome ≡ true → stand_in place s.seq.tickets ≡ None
    → Fits r guarded (deed place event outcome content ∷ ds) (kept_after guarded place event outcome content s)

pub fits_stay : FitsStay
fits_stay r guarded lacks spent ds place event outcome content s fits read row new = fits_after r guarded ds place event outcome content s (row_asks r guarded lacks spent ds s event outcome content fits read row) new fits

abbrev pub RowsAgree : Type 0
RowsAgree = (r : Option Backup) (guarded lacks spent : Bool) (ds : List Deed) (s : Kept) (event : Event) (outcome : Outcome) → Fits r guarded ds s → row_kept guarded lacks spent s event outcome ≡ row_of r guarded lacks spent ds event outcome

pub rows_agree : RowsAgree
rows_agree = row_same

abbrev pub FitsAtFirst : Type 0
FitsAtFirst = (r : Option Backup) (guarded : Bool) → Fits r guarded [] (kept_at_first r)

pub first_fits : FitsAtFirst
first_fits = fits_at_first
