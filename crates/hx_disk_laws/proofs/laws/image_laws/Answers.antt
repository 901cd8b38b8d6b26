use Rattle.hx_disk.specs.Images.{rest_settled, write_tears, cut_tears, same_images}
use Rattle.hx_disk_laws.proofs.laws.image_laws.Goals as goal

pub returns-clause-rest : goal.returns-clause-rest
returns-clause-rest c = rest_settled

pub returns-clause-write : goal.returns-clause-write
returns-clause-write c = write_tears

pub returns-clause-cut : goal.returns-clause-cut
returns-clause-cut c = cut_tears

pub returns-clause-stat : goal.returns-clause-stat
returns-clause-stat c = same_images
