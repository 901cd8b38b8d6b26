-- The invariant of a pair is enough: what its images hold is allowed.
use Rattle.std.specs.Prelude.{◌≡◌, ◌⊎◌, ◌<◌, ◌≤◌, ℕ, Bool, true, false, nat_lt, if◌then◌else◌, List, Option, Some, None, Result, Ok, Err, refl}
use Rattle.std.proofs.Common.{sym, ◌∙◌, ap, subst, inl, inr, arith}
use Rattle.std.proofs.lemmas.Bool.Decides.{nat_tests}
use Rattle.hx_events.specs.declared.backup.Backup.{Backup}
use Rattle.hx_events.specs.declared.backup.Side.{Side}
use Rattle.hx_events.specs.declared.backup.Side.TheVariants.{A, B}
use Rattle.hx_record.specs.declared.error.RecordError.{RecordError}
use Rattle.hx_record.specs.Records.{record_in}
use Rattle.hx_restore.specs.Values.{SideValue, Silent, Holding, side_by, side_of, value_of}
use Rattle.hx_restore.specs.declared.value.PairValue.{PairValue}
use Rattle.hx_restore.specs.declared.value.PairValue.TheVariants.{Nothing, Broken, Held}
use Rattle.hx_rules.specs.Allowed.{IsAmong, allowed_of}
use Rattle.hx_rules.specs.Backups.{Snapshot, backup_of}
use Rattle.hx_rules.specs.Marks.{Marks}
use Rattle.hx_slots.specs.Frames.{Frame}
use Rattle.hx_vault.specs.Sides.{SideState, Shut, Still, CanShow}
use Rattle.hx_pairs.specs.OnePair.{Quiet, Reads, side_stamp, IsHome, LosesTo, Loses, IsAway, PairInvariant}

-- a pair's value is allowed: nothing where nothing may come back, else a backup of the resource that may
abbrev pub IsFine : List ℕ → List (Option Snapshot) → PairValue → Type 0
IsFine resource allowed Nothing = IsAmong None allowed
IsFine resource allowed Broken = ⊥
IsFine resource allowed (Held b side) = (s : Snapshot) × IsAmong (Some s) allowed × (b ≡ backup_of resource s)

-- the value of a pair, its home side first
abbrev pub value_at : Side → SideValue → SideValue → PairValue
value_at A here away = value_of here away
value_at B here away = value_of away here

pub quiet_shows : (s : SideState) (x : Option Frame) → Quiet s → CanShow s x → side_of x ≡ Silent
quiet_shows (Shut frame) x quiet can = ap side_of can
quiet_shows (Still None true) x quiet can = ap side_of can
quiet_shows (Still None false) x quiet (inl can) = ap side_of can
quiet_shows (Still None false) x quiet (inr can) = ap side_of can
quiet_shows (Still (Some frame) sure) x quiet can = absurd quiet

shown_reads : (frame : Frame) (x : Option Frame) (backup : Backup) → x ≡ Some frame → Reads frame backup → side_of x ≡ Holding frame.stamp backup
shown_reads frame x backup is reads = ap side_of is ∙ ap (side_by frame.stamp) reads

-- what the home side is worth
abbrev HomeIs : List ℕ → Bool → Option Snapshot → ℕ → SideValue → Type 0
HomeIs resource undone None s v = v ≡ Silent
HomeIs resource undone (Some b) s v = (v ≡ Holding s (backup_of resource b)) ⊎ ((undone ≡ true) × (v ≡ Silent))

home_is : (resource : List ℕ) (most : ℕ) (undone : Bool) (done : Option Snapshot) (here : SideState) (x : Option Frame) → IsHome resource most undone done here → CanShow here x → HomeIs resource undone done (side_stamp here) (side_of x)
home_is resource most undone None here x home can = quiet_shows here x home can
home_is resource most undone (Some b) (Shut frame) x home can = absurd home
home_is resource most undone (Some b) (Still None sure) x home can = absurd home
home_is resource most undone (Some b) (Still (Some frame) true) x home can = inl (shown_reads frame x (backup_of resource b) can home.0)
home_is resource most true (Some b) (Still (Some frame) false) x home (inl can) = inr (refl, ap side_of can)
home_is resource most true (Some b) (Still (Some frame) false) x home (inr can) = inl (shown_reads frame x (backup_of resource b) can home.0)
home_is resource most false (Some b) (Still (Some frame) false) x home can = absurd (let e : false ≡ true = home.2 refl in cc)

-- what the other side is worth
abbrev AwayIs : Side → List ℕ → Bool → Option Snapshot → Option Snapshot → ℕ → SideValue → Type 0
AwayIs home resource undone was (Some t) s v = (v ≡ Silent) ⊎ ((n : ℕ) × (v ≡ Holding n (backup_of resource t)))
AwayIs home resource undone None None s v = v ≡ Silent
AwayIs home resource true (Some b) None s v = v ≡ Silent
AwayIs home resource false (Some b) None s v = (v ≡ Silent) ⊎ ((t : ℕ) × (r : Result Backup RecordError) × (v ≡ side_by t r) × LosesTo home s t r)

loser_is : (home : Side) (s : ℕ) (away : SideState) (y : Option Frame) → Loses home s away → CanShow away y → (side_of y ≡ Silent) ⊎ ((t : ℕ) × (r : Result Backup RecordError) × (side_of y ≡ side_by t r) × LosesTo home s t r)
loser_is home s (Shut frame) y loses can = inl (ap side_of can)
loser_is home s (Still None true) y loses can = inl (ap side_of can)
loser_is home s (Still None false) y loses (inl can) = inl (ap side_of can)
loser_is home s (Still None false) y loses (inr can) = inl (ap side_of can)
loser_is home s (Still (Some frame) true) y loses can = inr (frame.stamp, record_in frame.form frame.body, ap side_of can, loses)
loser_is home s (Still (Some frame) false) y loses (inl can) = inl (ap side_of can)
loser_is home s (Still (Some frame) false) y loses (inr can) = inr (frame.stamp, record_in frame.form frame.body, ap side_of can, loses)

away_is : (home : Side) (resource : List ℕ) (undone : Bool) (done tried : Option Snapshot) (s : ℕ) (away : SideState) (y : Option Frame) → IsAway home resource undone done tried s away → CanShow away y → AwayIs home resource undone done tried s (side_of y)
away_is home resource undone was (Some t) s (Shut frame) y is can = absurd is
away_is home resource undone was (Some t) s (Still None sure) y is can = absurd is
away_is home resource undone was (Some t) s (Still (Some frame) true) y is can = inr (frame.stamp, shown_reads frame y (backup_of resource t) can is)
away_is home resource undone was (Some t) s (Still (Some frame) false) y is (inl can) = inl (ap side_of can)
away_is home resource undone was (Some t) s (Still (Some frame) false) y is (inr can) = inr (frame.stamp, shown_reads frame y (backup_of resource t) can is)
away_is home resource undone None None s away y is can = quiet_shows away y is can
away_is home resource true (Some b) None s away y is can = quiet_shows away y is can
away_is home resource false (Some b) None s away y is can = loser_is home s away y is can

-- one of two
fine_if : (resource : List ℕ) (allowed : List (Option Snapshot)) (test : Bool) (x y : PairValue) → IsFine resource allowed x → IsFine resource allowed y → IsFine resource allowed (if test then x else y)
fine_if resource allowed true x y fine_x fine_y = fine_x
fine_if resource allowed false x y fine_x fine_y = fine_y

less : (a b : ℕ) → a < b → nat_lt a b ≡ true
less a b lt = grind (arith, nat_tests)

not_less : (a b : ℕ) → b ≤ a → nat_lt a b ≡ false
not_less a b le = grind (arith, nat_tests)

-- home alone shows
home_alone : (home : Side) (s : ℕ) (b : Backup) (resource : List ℕ) (allowed : List (Option Snapshot)) (x : Snapshot) → b ≡ backup_of resource x → IsAmong (Some x) allowed → IsFine resource allowed (value_at home (Holding s b) Silent)
home_alone A s b resource allowed x is among = (x, among, is)
home_alone B s b resource allowed x is among = (x, among, is)

away_alone : (home : Side) (s : ℕ) (b : Backup) (resource : List ℕ) (allowed : List (Option Snapshot)) (x : Snapshot) → b ≡ backup_of resource x → IsAmong (Some x) allowed → IsFine resource allowed (value_at home Silent (Holding s b))
away_alone A s b resource allowed x is among = (x, among, is)
away_alone B s b resource allowed x is among = (x, among, is)

none_alone : (home : Side) (resource : List ℕ) (allowed : List (Option Snapshot)) → IsAmong None allowed → IsFine resource allowed (value_at home Silent Silent)
none_alone A resource allowed among = among
none_alone B resource allowed among = among

both : (home : Side) (s t : ℕ) (a b : Backup) (resource : List ℕ) (allowed : List (Option Snapshot)) (x y : Snapshot) → a ≡ backup_of resource x → b ≡ backup_of resource y → IsAmong (Some x) allowed → IsAmong (Some y) allowed → IsFine resource allowed (value_at home (Holding s a) (Holding t b))
both A s t a b resource allowed x y is_a is_b among_x among_y = fine_if resource allowed (nat_lt s t) (Held b B) (Held a A) (y, among_y, is_b) (x, among_x, is_a)
both B s t a b resource allowed x y is_a is_b among_x among_y = fine_if resource allowed (nat_lt t s) (Held a B) (Held b A) (x, among_x, is_a) (y, among_y, is_b)

beside_loser : (home : Side) (s t : ℕ) (a : Backup) (r : Result Backup RecordError) (resource : List ℕ) (allowed : List (Option Snapshot)) (x : Snapshot) → a ≡ backup_of resource x → IsAmong (Some x) allowed → LosesTo home s t r → IsFine resource allowed (value_at home (Holding s a) (side_by t r))
beside_loser A s t a (Err error) resource allowed x is among loses = (x, among, is)
beside_loser B s t a (Err error) resource allowed x is among loses = (x, among, is)
beside_loser A s t a (Ok b) resource allowed x is among loses = subst (λ (k : Bool). IsFine resource allowed (if k then Held b B else Held a A)) (sym (not_less s t loses)) (x, among, is)
beside_loser B s t a (Ok b) resource allowed x is among loses = subst (λ (k : Bool). IsFine resource allowed (if k then Held a B else Held b A)) (sym (less t s loses)) (x, among, is)

-- the table
rows : (home : Side) (resource : List ℕ) (undone : Bool) (done tried : Option Snapshot) (s : ℕ) (v w : SideValue) → HomeIs resource undone done s v → AwayIs home resource undone done tried s w → IsFine resource (allowed_of done tried undone) (value_at home v w)
rows home resource undone None None s v w is_home is_away =
    subst (λ (u : SideValue). IsFine resource (allowed_of None None undone) (value_at home u w)) (sym is_home)
    (subst (λ (u : SideValue). IsFine resource (allowed_of None None undone) (value_at home Silent u)) (sym is_away)
    (none_alone home resource (allowed_of None None undone) (inl refl)))
rows home resource undone None (Some t) s v w is_home (inl is_away) =
    subst (λ (u : SideValue). IsFine resource (allowed_of None (Some t) undone) (value_at home u w)) (sym is_home)
    (subst (λ (u : SideValue). IsFine resource (allowed_of None (Some t) undone) (value_at home Silent u)) (sym is_away)
    (none_alone home resource (allowed_of None (Some t) undone) (inl refl)))
rows home resource undone None (Some t) s v w is_home (inr is_away) =
    subst (λ (u : SideValue). IsFine resource (allowed_of None (Some t) undone) (value_at home u w)) (sym is_home)
    (subst (λ (u : SideValue). IsFine resource (allowed_of None (Some t) undone) (value_at home Silent u)) (sym is_away.1)
    (away_alone home is_away.0 (backup_of resource t) resource (allowed_of None (Some t) undone) t refl (inr (inl refl))))
rows home resource false (Some b) None s v w (inl is_home) (inl is_away) =
    subst (λ (u : SideValue). IsFine resource (allowed_of (Some b) None false) (value_at home u w)) (sym is_home)
    (subst (λ (u : SideValue). IsFine resource (allowed_of (Some b) None false) (value_at home (Holding s (backup_of resource b)) u)) (sym is_away)
    (home_alone home s (backup_of resource b) resource (allowed_of (Some b) None false) b refl (inl refl)))
rows home resource false (Some b) None s v w (inl is_home) (inr is_away) =
    subst (λ (u : SideValue). IsFine resource (allowed_of (Some b) None false) (value_at home u w)) (sym is_home)
    (subst (λ (u : SideValue). IsFine resource (allowed_of (Some b) None false) (value_at home (Holding s (backup_of resource b)) u)) (sym is_away.2)
    (beside_loser home s is_away.0 (backup_of resource b) is_away.1 resource (allowed_of (Some b) None false) b refl (inl refl) is_away.3))
rows home resource true (Some b) None s v w (inl is_home) is_away =
    subst (λ (u : SideValue). IsFine resource (allowed_of (Some b) None true) (value_at home u w)) (sym is_home)
    (subst (λ (u : SideValue). IsFine resource (allowed_of (Some b) None true) (value_at home (Holding s (backup_of resource b)) u)) (sym is_away)
    (home_alone home s (backup_of resource b) resource (allowed_of (Some b) None true) b refl (inl refl)))
rows home resource true (Some b) None s v w (inr is_home) is_away =
    subst (λ (u : SideValue). IsFine resource (allowed_of (Some b) None true) (value_at home u w)) (sym is_home.1)
    (subst (λ (u : SideValue). IsFine resource (allowed_of (Some b) None true) (value_at home Silent u)) (sym is_away)
    (none_alone home resource (allowed_of (Some b) None true) (inr (inl refl))))
rows home resource false (Some b) None s v w (inr is_home) is_away = absurd (let e : false ≡ true = is_home.0 in cc)
rows home resource undone (Some b) (Some t) s v w (inl is_home) (inl is_away) =
    subst (λ (u : SideValue). IsFine resource (allowed_of (Some b) (Some t) undone) (value_at home u w)) (sym is_home)
    (subst (λ (u : SideValue). IsFine resource (allowed_of (Some b) (Some t) undone) (value_at home (Holding s (backup_of resource b)) u)) (sym is_away)
    (home_alone home s (backup_of resource b) resource (allowed_of (Some b) (Some t) undone) b refl (inl refl)))
rows home resource undone (Some b) (Some t) s v w (inl is_home) (inr is_away) =
    subst (λ (u : SideValue). IsFine resource (allowed_of (Some b) (Some t) undone) (value_at home u w)) (sym is_home)
    (subst (λ (u : SideValue). IsFine resource (allowed_of (Some b) (Some t) undone) (value_at home (Holding s (backup_of resource b)) u)) (sym is_away.1)
    (both home s is_away.0 (backup_of resource b) (backup_of resource t) resource (allowed_of (Some b) (Some t) undone) b t refl refl (inl refl) (inr (inl refl))))
rows home resource true (Some b) (Some t) s v w (inr is_home) (inl is_away) =
    subst (λ (u : SideValue). IsFine resource (allowed_of (Some b) (Some t) true) (value_at home u w)) (sym is_home.1)
    (subst (λ (u : SideValue). IsFine resource (allowed_of (Some b) (Some t) true) (value_at home Silent u)) (sym is_away)
    (none_alone home resource (allowed_of (Some b) (Some t) true) (inr (inr (inl refl)))))
rows home resource true (Some b) (Some t) s v w (inr is_home) (inr is_away) =
    subst (λ (u : SideValue). IsFine resource (allowed_of (Some b) (Some t) true) (value_at home u w)) (sym is_home.1)
    (subst (λ (u : SideValue). IsFine resource (allowed_of (Some b) (Some t) true) (value_at home Silent u)) (sym is_away.1)
    (away_alone home is_away.0 (backup_of resource t) resource (allowed_of (Some b) (Some t) true) t refl (inr (inl refl))))
rows home resource false (Some b) (Some t) s v w (inr is_home) is_away = absurd (let e : false ≡ true = is_home.0 in cc)

pub enough : (resource : List ℕ) (m : Marks) (home : Side) (most : ℕ) (here away : SideState) → PairInvariant resource m home most here away → (x y : Option Frame) → CanShow here x → CanShow away y
    → IsFine resource (allowed_of m.done m.tried m.undone) (value_at home (side_of x) (side_of y))
enough resource m home most here away keeps x y can_x can_y =
    rows home resource m.undone m.done m.tried (side_stamp here) (side_of x) (side_of y)
    (home_is resource most m.undone m.done here x keeps.at_home can_x)
    (away_is home resource m.undone m.done m.tried (side_stamp here) away y keeps.at_away can_y)
