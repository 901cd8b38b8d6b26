-- Fields behind blanks, and lists of lines.
use Rattle.std.proofs.Common.{◌≡◌, ℕ, List, [], ◌∷◌, ◌++◌, codes, refl, ap, sym, ◌∙◌, append_assoc, append-nil}
use Rattle.hx_events.specs.declared.life.Ended.{Ended}
use Rattle.hx_events.specs.declared.life.Ended.TheVariants.{Script, Restart, Crash, Cut}
use Rattle.hx_events.specs.Texts.{spaced}
use Rattle.hx_report.specs.Traces.{life_unless_cut}

pub spaced-append : (fields more : List (List ℕ)) → spaced (fields ++ more) ≡ spaced fields ++ spaced more
spaced-append [] more = refl
spaced-append (f ∷ fields) more = ap (λ rest. 32 ∷ (f ++ rest)) (spaced-append fields more) ∙ ap (λ rest. 32 ∷ rest) (sym (append_assoc f (spaced fields) (spaced more)))

-- six texts, one behind the other
chain : (out a b c d e : List ℕ) → ((((out ++ a) ++ b) ++ c) ++ d) ++ e ≡ out ++ (a ++ (b ++ (c ++ (d ++ e))))
chain out a b c d e = simp append_assoc

single : (field : List ℕ) → spaced (field ∷ []) ≡ 32 ∷ field
single field = ap (λ rest. 32 ∷ rest) (append-nil field)

-- the line of a found backup, put in parts
pub found_line : (out number resource text : List ℕ) (base : List (List ℕ))
    → ((((((out ++ codes "pair") ++ spaced (number ∷ [])) ++ codes " restored") ++ spaced (resource ∷ [])) ++ spaced base) ++ spaced (text ∷ [])) ++ 10 ∷ []
    ≡ ((out ++ codes "pair") ++ spaced (number ∷ codes "restored" ∷ resource ∷ base ++ text ∷ [])) ++ codes "\n"
found_line out number resource text base =
    ap (λ (line : List ℕ). line ++ 10 ∷ [])
    ((λ j. ((((((out ++ codes "pair") ++ single number j) ++ codes " restored") ++ single resource j) ++ spaced base) ++ single text j))
    ∙ (chain (out ++ codes "pair") (32 ∷ number) (codes " restored") (32 ∷ resource) (spaced base) (32 ∷ text)
    ∙ ap (λ (rest : List ℕ). (out ++ codes "pair") ++ (32 ∷ (number ++ 32 ∷ (codes "restored" ++ 32 ∷ (resource ++ rest)))))
    (sym (spaced-append base (text ∷ []) ∙ ap (λ (last : List ℕ). spaced base ++ last) (single text)))))

-- a life that was cut has no text
pub cut_text : (ended : Ended) (text : List ℕ) → ended ≡ Cut → life_unless_cut ended text ≡ []
cut_text Cut text h = refl
cut_text Script text h = absurd cc
cut_text Restart text h = absurd cc
cut_text (Crash pick) text h = absurd cc

pub uncut_text : (ended : Ended) (text : List ℕ) → (ended ≡ Cut → ⊥) → life_unless_cut ended text ≡ text
uncut_text Cut text h = absurd (h refl)
uncut_text Script text h = refl
uncut_text Restart text h = refl
uncut_text (Crash pick) text h = refl
