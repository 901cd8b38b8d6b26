use Rattle.std.proofs.Common.{◌≡◌, ◌∙◌}
use Rattle.hx_hub.proofs.hub.Founded.new.Goals as goal

pub returns-in-Ok-clause-counts : goal.returns-in-Ok-clause-counts
returns-in-Ok-clause-counts g c =
    let given : c.from.result ≡ c.args.windows = c.from.ensures in
    (c.in-Ok.ensures.2 ∙ given, c.in-Ok.ensures.1)
