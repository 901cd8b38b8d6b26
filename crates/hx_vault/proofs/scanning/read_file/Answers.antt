use Rattle.std.specs.Prelude.{min}
use Rattle.std.proofs.Common.{rules, ◌≡◌, ℕ, List, length, take, drop, sym, ◌∙◌, ap, arith}
use Rattle.hx_disk.specs.File.{FileState}
use Rattle.hx_vault.proofs.RestSteps.{front_read}
use Rattle.hx_vault.proofs.scanning.read_file.Goals as goal

pub returns-clause-bytes : goal.returns-clause-bytes
returns-clause-bytes g c = λ told.
    let reading = (g.D.Disk.now c.args.disk.now c.args.file).reading in
    let size : c.in_ok-size_of.field-0 ≡ length reading = c.in_ok-size_of.ensures.size told in
    let asked : c.min-size.result ≡ min c.in_ok-size_of.field-0 534305 = search rules in
    c.new-2.ensures ∙ c.in_ok-bytes.ensures.bytes told
    ∙ ap (λ (f : FileState). take c.min-size.result f.reading) (c.size_of.ensures.unchanged.same c.args.file)
    ∙ front_read c.min-size.result 534305 reading (asked ∙ ap (λ k. min k 534305) size)
