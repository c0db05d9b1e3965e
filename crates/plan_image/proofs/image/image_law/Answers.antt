use Rattle.plan_image.proofs.TableLemmas.{prefix_free}
use Rattle.plan_image.proofs.image.image_law.Goals as goal

pub returns : goal.returns
returns c = prefix_free
