-- Which fault of a run a fault of its input or of a walk is.
use Rattle.gix_contained.specs.declared.Error.{Error as SearchError}
use Rattle.gix_contained.specs.declared.Error.TheVariants as search_error
use Rattle.gix_graph_check.specs.declared.Disagreement.{Disagreement}
use Rattle.gix_graph_check.specs.declared.Disagreement.TheVariants as disagreement
use Rattle.gix_records.specs.declared.Error.{Error as RecordsError}
use Rattle.gix_records.specs.declared.Error.TheVariants as records
use Rattle.gix_object.specs.declared.find.existing_iter.Error.{Error as ExistingError}
use Rattle.gix_object.specs.declared.find.existing_iter.Error.TheVariants as existing
use Rattle.gix_lines.specs.declared.Error.{Error as LinesError}
use Rattle.gix_lines.specs.declared.Error.TheVariants as lines_error
use Rattle.gix_simple.specs.declared.Error.{Error}
use Rattle.gix_simple.specs.declared.Error.TheVariants as error
use Rattle.gix_paint.specs.declared.Hidden.TheVariants as hidden_by
use Rattle.gix_topo.specs.declared.Error.{Error as TopoError}
use Rattle.gix_topo.specs.declared.Error.TheVariants as topo_error
use Rattle.gix_tree.specs.declared.breadthfirst.Error.{Error as TreeError}
use Rattle.gix_tree.specs.declared.breadthfirst.Error.TheVariants as tree_error
use Rattle.gix_words.specs.declared.fault.Fault.{Fault}
use Rattle.gix_words.specs.declared.fault.Fault.TheVariants as fault

abbrev pub fault_of_records : RecordsError → Fault
fault_of_records records.Read = fault.Read
fault_of_records (records.Record n) = fault.Record n
fault_of_records (records.Name n i) = fault.Internal
fault_of_records records.Memory = fault.Memory

abbrev pub fault_of_disagreement : Disagreement → Fault
fault_of_disagreement (disagreement.Row i) = fault.Disagrees i
fault_of_disagreement (disagreement.Store i) = fault.Internal
fault_of_disagreement disagreement.Memory = fault.Memory

abbrev pub fault_of_find : ExistingError → Fault
fault_of_find existing.Store = fault.Internal
fault_of_find (existing.NotFound oid) = fault.Missing oid
fault_of_find (existing.ObjectKind oid expected actual) = fault.WrongKind oid
fault_of_find existing.Memory = fault.Memory

-- a fault in what hidden commits reach is named by what it holds
abbrev pub fault_of_walk : Error → Fault
fault_of_walk (error.Find e) = fault_of_find e
fault_of_walk (error.ObjectDecode e) = fault.Broken
fault_of_walk (error.HiddenGraph (hidden_by.Find e)) = fault_of_find e
fault_of_walk (error.HiddenGraph (hidden_by.ObjectDecode e)) = fault.Broken
fault_of_walk error.Memory = fault.Memory

-- without rows, and with rows that agree with the store, none is missing
abbrev pub fault_of_topo_walk : TopoError → Fault
fault_of_topo_walk topo_error.MissingIndegreeUnexpected = fault.Internal
fault_of_topo_walk topo_error.MissingStateUnexpected = fault.Internal
fault_of_topo_walk (topo_error.ObjectDecode e) = fault.Broken
fault_of_topo_walk (topo_error.Find e) = fault_of_find e
fault_of_topo_walk topo_error.Memory = fault.Memory

abbrev pub fault_of_search : SearchError → Fault
fault_of_search (search_error.Find e) = fault_of_find e
fault_of_search (search_error.ObjectDecode e) = fault.Broken
fault_of_search search_error.Memory = fault.Memory

abbrev pub fault_of_tree_walk : TreeError → Fault
fault_of_tree_walk (tree_error.Find e) = fault_of_find e
fault_of_tree_walk tree_error.Cancelled = fault.Internal
fault_of_tree_walk (tree_error.ObjectDecode e) = fault.Broken
fault_of_tree_walk (tree_error.Cycle oid) = fault.Cycle oid
fault_of_tree_walk tree_error.Memory = fault.Memory

abbrev pub fault_of_lines : LinesError → Fault
fault_of_lines lines_error.Memory = fault.Memory
fault_of_lines lines_error.Write = fault.Write
