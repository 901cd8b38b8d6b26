-- An image of the disk has one list of entries.
use Rattle.std.specs.Prelude.{◌≡◌, ◌<◌, ◌≤◌, ◌+◌, ℕ, zero, suc, List, length}
use Rattle.std.proofs.Common.{sym, ◌∙◌, ap, ⊎_elim, arith}
use Rattle.std.proofs.lemmas.Bool.{cases_lt}
use Rattle.std.proofs.lemmas.List.{ext_get_or}
use Rattle.hx_history_laws.specs.declared.entry.HistoryEntry.{HistoryEntry}
use Rattle.hx_history_laws.specs.Entries.{AreEntries, IsIn, IsOutgrown, entry_at, no_entry}

-- Two lists of entries of one image are the same.
abbrev pub OneList : Type 0
OneList = (image : ℕ → List ℕ) (es fs : List HistoryEntry) → AreEntries image es → AreEntries image fs → es ≡ fs

-- ---- proofs

-- a greater number stands further behind
behind : (image : ℕ → List ℕ) (es : List HistoryEntry) → AreEntries image es → (i k : ℕ) → i < length es → k < length es → (entry_at es i).number < (entry_at es k).number → i < k
behind image es a i k in_i in_k less = ⊎_elim
    (λ lt. lt)
    (λ le. absurd (⊎_elim
    (λ below. let b = below in let up = a.ascend k i b in_i in omega (arith, up, less))
    (λ above. let p = le in let q = above in let same : (entry_at es i).number ≡ (entry_at es k).number = ap (λ n. (entry_at es n).number) (let z : i ≡ k = omega (arith, p, q) in z) in omega (arith, same, less))
    (cases_lt k i)))
    (cases_lt i k)

-- an entry that stands so far behind
record StandsAbove (es : List HistoryEntry) (e : HistoryEntry) (least : ℕ) : Type 0 where
  place : ℕ
  within : place < length es
  is : entry_at es place ≡ e
  high : least ≤ place

module _ (image : ℕ → List ℕ) (es fs : List HistoryEntry) (a : AreEntries image es) (b : AreEntries image fs) where
  -- If one of these entries were outgrown by the others, all 50 of the others would stand behind it.
  module _ (i : ℕ) (in_i : i < length es) (out : IsOutgrown (entry_at es i) fs) where
    is_there : (j : ℕ) → j < length fs → IsIn (entry_at fs j) es
    is_there j in_j = ⊎_elim
        (λ is_in. is_in)
        (λ older. absurd (let x = older.older i in_i in let y = out.older j in_j in omega (arith, x, y)))
        (a.last (entry_at fs j) (b.fit j in_j) (b.found j in_j))

    climb : (j : ℕ) → j < length fs → StandsAbove es (entry_at fs j) (j + 1)
    climb zero lt =
        let at = is_there 0 lt in
        let number = ap (λ (e : HistoryEntry). e.number) at.is in
        let o = out.older 0 lt in
        let up = behind image es a i at.place in_i at.within (omega (arith, number, o)) in
        record { place = at.place; within = at.within; is = at.is; high = omega (arith, up) }
    climb (suc m) lt =
        let before = climb m (omega (arith, lt)) in
        let at = is_there (suc m) lt in
        let number = ap (λ (e : HistoryEntry). e.number) at.is in
        let earlier = ap (λ (e : HistoryEntry). e.number) before.is in
        let o = b.ascend m (suc m) (omega arith) lt in
        let up = behind image es a before.place at.place before.within at.within (omega (arith, number, earlier, o)) in
        let h = before.high in
        record { place = at.place; within = at.within; is = at.is; high = omega (arith, up, h) }

  -- each of these entries is one of the others
  among : (i : ℕ) → i < length es → IsIn (entry_at es i) fs
  among i in_i = ⊎_elim
      (λ is_in. is_in)
      (λ out. absurd (let many = out.many in let top = climb i in_i out 49 (omega (arith, many)) in let w = top.within in let h = top.high in let f = a.few in omega (arith, w, h, f)))
      (b.last (entry_at es i) (a.fit i in_i) (a.found i in_i))

module _ (image : ℕ → List ℕ) (es fs : List HistoryEntry) (a : AreEntries image es) (b : AreEntries image fs) where
  -- those at the place n are the same where all before it are
  module _ (n : ℕ) (in_es : n < length es) (in_fs : n < length fs) (before : (i : ℕ) → i < n → entry_at es i ≡ entry_at fs i) where
    mine : IsIn (entry_at es n) fs
    mine = among image es fs a b n in_es

    theirs : IsIn (entry_at fs n) es
    theirs = among image fs es b a n in_fs

    not_before : n ≤ mine.place
    not_before = ⊎_elim
        (λ below. absurd (let p = below in
        let same = ap (λ (e : HistoryEntry). e.number) (before mine.place p ∙ mine.is) in
        let up = a.ascend mine.place n p in_es in
        omega (arith, same, up)))
        (λ le. le)
        (cases_lt mine.place n)

    nor_theirs : n ≤ theirs.place
    nor_theirs = ⊎_elim
        (λ below. absurd (let p = below in
        let same = ap (λ (e : HistoryEntry). e.number) (sym (before theirs.place p) ∙ theirs.is) in
        let up = b.ascend theirs.place n p in_fs in
        omega (arith, same, up)))
        (λ le. le)
        (cases_lt theirs.place n)

    no_less : (entry_at es n).number ≤ (entry_at fs n).number
    no_less = ⊎_elim
        (λ more. let q = more in let high = a.ascend n theirs.place q theirs.within in let t = ap (λ (e : HistoryEntry). e.number) theirs.is in omega (arith, high, t))
        (λ less. let q = less in let r = nor_theirs in let same = ap (λ k. (entry_at es k).number) (let z : n ≡ theirs.place = omega (arith, q, r) in z) in let t = ap (λ (e : HistoryEntry). e.number) theirs.is in omega (arith, same, t))
        (cases_lt n theirs.place)

    not_behind : mine.place ≤ n
    not_behind = ⊎_elim
        (λ above. absurd (let p = above in
        let up = b.ascend n mine.place p mine.within in
        let m = ap (λ (e : HistoryEntry). e.number) mine.is in
        let l = no_less in
        omega (arith, up, m, l)))
        (λ le. le)
        (cases_lt n mine.place)

    here : entry_at es n ≡ entry_at fs n
    here = sym mine.is ∙ ap (entry_at fs) (let p = not_before in let q = not_behind in let z : mine.place ≡ n = omega (arith, p, q) in z)

  same_front : (n : ℕ) → n ≤ length es → n ≤ length fs → (i : ℕ) → i < n → entry_at es i ≡ entry_at fs i
  same_front zero in_es in_fs i lt = absurd (omega (arith, lt))
  same_front (suc n) in_es in_fs i lt =
      let ih = same_front n (omega (arith, in_es)) (omega (arith, in_fs)) in
      ⊎_elim
      (λ below. ih i below)
      (λ last. let l = last in let at : i ≡ n = omega (arith, l, lt) in ap (entry_at es) at ∙ here n (omega (arith, in_es)) (omega (arith, in_fs)) ih ∙ ap (entry_at fs) (sym at))
      (cases_lt i n)

  no_longer : length fs ≤ length es
  no_longer = ⊎_elim
      (λ longer. absurd (let l = longer in
      let t = among image fs es b a (length es) l in
      let same = ap (λ (e : HistoryEntry). e.number) (sym (same_front (length es) (omega arith) (omega (arith, l)) t.place t.within) ∙ t.is) in
      let up = b.ascend t.place (length es) t.within l in
      omega (arith, same, up)))
      (λ le. le)
      (cases_lt (length es) (length fs))

pub one_list : OneList
one_list image es fs a b =
    let more = no_longer image es fs a b in
    let less = no_longer image fs es b a in
    let long : length es ≡ length fs = omega (arith, more, less) in
    ext_get_or no_entry es fs long (λ i lt. same_front image es fs a b (length es) (omega arith) (omega (arith, long)) i lt)
