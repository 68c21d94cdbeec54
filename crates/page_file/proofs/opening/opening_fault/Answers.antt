-- Where each version is read the answer is the same.
use Rattle.std.proofs.Common.{◌∙◌, sym}
use Rattle.page_file.specs.Newest.{all_read}
use Rattle.page_file.proofs.opening.opening_fault.Goals as goal

pub returns : goal.returns
returns c = λ shown first second many. sym (all_read shown) ∙ c.fault_up_to.ensures shown first second many
