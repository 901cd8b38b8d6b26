use Rattle.std.proofs.Common.{◌≡◌, ℕ, ◌<◌, List, ◌++◌, length, take, drop, slice_index_or, rules, subst, ap, sym, ◌∙◌}
use Rattle.hx_actors.specs.Pieces.{Each2, Ends, Job}
use Rattle.hx_actors.proofs.Jobs.{each2_of, take_whole}
use Rattle.hx_actors.proofs.crew.Crew.work.Goals as goal

pub returns : goal.returns
returns g c =
    let n = g.J.Naming.windows in
    let olds : List Job = c.self.inside.pieces.items in
    let news : List Job = c.work_all.new.pieces in
    let value : c.as_mut_slice.result.now ≡ olds = c.as_mut_slice.ensures.value in
    let each : (i : ℕ) (d : Job) → i < length olds → Ends n (slice_index_or olds i d) (slice_index_or news i d) = subst (λ (xs : List Job). (i : ℕ) (d : Job) → i < length xs → Ends n (slice_index_or xs i d) (slice_index_or news i d)) value c.work_all.ensures.each in
    let len : length news ≡ length olds = c.work_all.ensures.len ∙ ap length value in
    let count : c.self.inside.pieces.len ≡ length news = search rules in
    let all : Each2 (Ends n) olds news = each2_of (Ends n) olds news len each in
    let same : take c.self.inside.pieces.len (news ++ drop (length news) olds) ≡ news = ap (λ k. take k (news ++ drop (length news) olds)) count ∙ take_whole news (drop (length news) olds) in
    subst (λ (xs : List Job). Each2 (Ends n) c.args.self.now xs) (sym same) (subst (λ (xs : List Job). Each2 (Ends n) xs news) c.self.view_is all)
