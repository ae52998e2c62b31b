-- Which error a fault of a walk is.
use Rattle.gix_simple.specs.declared.Error.{Error as WalkError}
use Rattle.gix_simple.specs.declared.Error.TheVariants as walk
use Rattle.gix_contained.specs.declared.Error.{Error}
use Rattle.gix_contained.specs.declared.Error.TheVariants as error
use Rattle.gix_contained.specs.Contained.{error_of, error_of_find}

abbrev pub error_of_walk : WalkError → Error
error_of_walk (walk.Find e) = error_of_find e
error_of_walk (walk.ObjectDecode e) = error.ObjectDecode e
error_of_walk (walk.HiddenGraph why) = error_of why
error_of_walk walk.Memory = error.Memory
