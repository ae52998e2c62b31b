-- Which fault of a topological walk a fault of a look-up is.
use Rattle.gix_object.specs.declared.find.existing_iter.Error.{Error as ExistingError}
use Rattle.gix_object.specs.declared.find.existing_iter.Error.TheVariants as existing
use Rattle.gix_topo.specs.declared.Error.{Error}
use Rattle.gix_topo.specs.declared.Error.TheVariants as error

abbrev pub error_of_find : ExistingError → Error
error_of_find existing.Memory = error.Memory
error_of_find existing.Store = error.Find existing.Store
error_of_find (existing.NotFound oid) = error.Find (existing.NotFound oid)
error_of_find (existing.ObjectKind oid expected actual) = error.Find (existing.ObjectKind oid expected actual)
