-- Which fault of a walk a fault of a look-up is.
use Rattle.gix_object.specs.declared.find.existing_iter.Error.{Error as ExistingError}
use Rattle.gix_object.specs.declared.find.existing_iter.Error.TheVariants as existing
use Rattle.gix_simple.specs.declared.Error.{Error}
use Rattle.gix_simple.specs.declared.Error.TheVariants as error
use Rattle.gix_simple.specs.declared.step.Stop.{Stop}
use Rattle.gix_simple.specs.declared.step.Stop.TheVariants as stop
use Rattle.gix_paint.specs.declared.Hidden.{Hidden}
use Rattle.gix_paint.specs.declared.Hidden.TheVariants as hidden_by

abbrev pub error_of_find : ExistingError → Error
error_of_find existing.Memory = error.Memory
error_of_find existing.Store = error.Find existing.Store
error_of_find (existing.NotFound oid) = error.Find (existing.NotFound oid)
error_of_find (existing.ObjectKind oid expected actual) = error.Find (existing.ObjectKind oid expected actual)

abbrev pub error_of_stop : Stop → Error
error_of_stop stop.Store = error.Find existing.Store
error_of_stop stop.Memory = error.Memory

abbrev pub error_of_hidden : Hidden → Error
error_of_hidden (hidden_by.Find existing.Memory) = error.Memory
error_of_hidden (hidden_by.Find existing.Store) = error.HiddenGraph (hidden_by.Find existing.Store)
error_of_hidden (hidden_by.Find (existing.NotFound oid)) = error.HiddenGraph (hidden_by.Find (existing.NotFound oid))
error_of_hidden (hidden_by.Find (existing.ObjectKind oid expected actual)) = error.HiddenGraph (hidden_by.Find (existing.ObjectKind oid expected actual))
error_of_hidden (hidden_by.ObjectDecode e) = error.HiddenGraph (hidden_by.ObjectDecode e)
