-- A history grows by one entry, which is of one resource at most.
use Rattle.std.specs.Prelude.{◌≡◌, ℕ, ◌+◌, ◌==◌, true, false, cond, List, [], ◌∷◌, ◌++◌, length}
use Rattle.std.proofs.Common.{ap, sym, ◌∙◌, arith}
use Rattle.std.proofs.lemmas.Bool.Decides.{nat_tests}
use Rattle.std.proofs.lemmas.List.{reverse-append}
use Rattle.hx_events.specs.declared.event.Event.{Event}
use Rattle.hx_events.specs.declared.event.Event.TheVariants.{Act, Vault, Flush, Quit}
use Rattle.hx_events.specs.declared.life.Entry.{Entry}
use Rattle.hx_events.specs.Texts.{resource_of}
use Rattle.hx_rules.specs.Entries.{deed, own, is_of, past}

-- the newest entry is the head of what is read
abbrev pub NewestFirst : Type 0
NewestFirst = (es : List Entry) (e : Entry) → past (es ++ e ∷ []) ≡ e ∷ past es

-- an entry of the resource is its newest deed, whose place is the number of entries with it
abbrev pub AddsDeed : Type 0
AddsDeed = (c : ℕ) (e : Entry) (es : List Entry) → is_of c e.event ≡ true → own c (e ∷ es) ≡ deed (length es + 1) e.event e.outcome e.content ∷ own c es

-- an entry of another resource leaves the resource's own deeds as they are, and so all that is said of them
abbrev pub LeavesOthers : Type 0
LeavesOthers = (c : ℕ) (e : Entry) (es : List Entry) → is_of c e.event ≡ false → own c (e ∷ es) ≡ own c es

-- an event is of one resource at most
abbrev pub OneResource : Type 0
OneResource = (c k : ℕ) (event : Event) → is_of c event ≡ true → is_of k event ≡ true → c ≡ k

pub newest_first : NewestFirst
newest_first es e = reverse-append es (e ∷ [])

pub adds_deed : AddsDeed
adds_deed c e es is = ap (λ b. cond b (deed (length es + 1) e.event e.outcome e.content ∷ own c es) (own c es)) is

pub leaves_others : LeavesOthers
leaves_others c e es other = ap (λ b. cond b (deed (length es + 1) e.event e.outcome e.content ∷ own c es) (own c es)) other

pub same_number : (n c : ℕ) → (n == c) ≡ true → n ≡ c
same_number n c h = grind (arith, nat_tests)

pub one_resource : OneResource
one_resource c k (Act command) h i = sym (same_number (resource_of command) c h) ∙ same_number (resource_of command) k i
one_resource c k (Vault r) h i = sym (same_number r c h) ∙ same_number r k i
one_resource c k (Flush r) h i = sym (same_number r c h) ∙ same_number r k i
one_resource c k Quit h i = absurd cc
