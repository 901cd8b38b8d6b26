-- What a script's reader knows of fields and steps.
use Rattle.std.proofs.Common.{◌≡◌, ℕ, List, [], ◌∷◌, take, refl, Option, Some, None}
use Rattle.std.specs.Borrow.{Bor}
use Rattle.hx_events.specs.Fields.{fields_of}
use Rattle.hx_events.specs.declared.event.Actor.{Actor}
use Rattle.hx_events.specs.declared.event.Actor.TheVariants.{Window, Writer, Saver, Closer, Watcher}
use Rattle.hx_script.specs.declared.declarations.Kind.{Kind}
use Rattle.hx_script.specs.declared.declarations.Kind.TheVariants.{Declares, Plants, Crashes, Restarts, Does}
use Rattle.hx_script.specs.declared.script.Form.{Form}
use Rattle.hx_script.specs.declared.script.Script.{Script}
use Rattle.hx_script.specs.Lines.{texts}
use Rattle.hx_script.specs.LineLaws.{fields_say}
use Rattle.hx_script.specs.Scripts.{fields_in, line_in, kind_in, line_of_kind, event_line}

-- eight fields say what all do
pub enough : (form : Form) (n : ℕ) (s : Script) (fields : List (List ℕ)) → fields_in form n s (take 8 fields) ≡ fields_in form n s fields
enough form n s [] = refl
enough form n s (a ∷ []) = refl
enough form n s (a ∷ b ∷ []) = refl
enough form n s (a ∷ b ∷ c ∷ []) = refl
enough form n s (a ∷ b ∷ c ∷ d ∷ []) = refl
enough form n s (a ∷ b ∷ c ∷ d ∷ e ∷ []) = refl
enough form n s (a ∷ b ∷ c ∷ d ∷ e ∷ f ∷ []) = refl
enough form n s (a ∷ b ∷ c ∷ d ∷ e ∷ f ∷ g ∷ []) = refl
enough form n s (a ∷ b ∷ c ∷ d ∷ e ∷ f ∷ g ∷ h ∷ more) = by_kind (kind_in a)
  where
    by_actor : (actor : Actor) → event_line form n s actor (b ∷ c ∷ d ∷ e ∷ f ∷ g ∷ h ∷ []) ≡ event_line form n s actor (b ∷ c ∷ d ∷ e ∷ f ∷ g ∷ h ∷ more)
    by_actor (Window k) = refl
    by_actor (Writer k) = refl
    by_actor (Saver k) = refl
    by_actor Closer = refl
    by_actor Watcher = refl

    by_kind : (k : Option Kind) → line_of_kind form n s k (b ∷ c ∷ d ∷ e ∷ f ∷ g ∷ h ∷ []) ≡ line_of_kind form n s k (b ∷ c ∷ d ∷ e ∷ f ∷ g ∷ h ∷ more)
    by_kind None = refl
    by_kind (Some Declares) = refl
    by_kind (Some Plants) = refl
    by_kind (Some Crashes) = refl
    by_kind (Some Restarts) = refl
    by_kind (Some (Does actor)) = by_actor actor

-- the fields of a line say what the line does
pub line_is : (form : Form) (n : ℕ) (s : Script) (line : List ℕ) (fields items : List (Bor (List ℕ))) → fields ≡ items → texts items ≡ take 8 (fields_of line) → fields_in form n s (texts fields) ≡ line_in form n s line
line_is form n s line fields items same parted = fields_say (fields_in form n s) 8 line fields items (enough form n s) same parted
