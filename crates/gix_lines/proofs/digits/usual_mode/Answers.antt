use Rattle.std.proofs.Common.{refl}
use Rattle.std.specs.Fmt.{digits}
use Rattle.gix_lines.proofs.digits.usual_mode.Goals as goal

pub returns-in-33188 : goal.returns-in-33188
unfolding digits
returns-in-33188 c = rw c.in-33188.is refl

pub returns-in-16384 : goal.returns-in-16384
unfolding digits
returns-in-16384 c = rw c.in-16384.is refl

pub returns-in-33261 : goal.returns-in-33261
unfolding digits
returns-in-33261 c = rw c.in-33261.is refl

pub returns-in-40960 : goal.returns-in-40960
unfolding digits
returns-in-40960 c = rw c.in-40960.is refl

pub returns-in-57344 : goal.returns-in-57344
unfolding digits
returns-in-57344 c = rw c.in-57344.is refl
