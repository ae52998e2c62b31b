-- The objects of a store, as the page of what a run promises has them.
use Rattle.std.specs.FinMap.{get}
use Rattle.std.specs.Option.{option_map}
use Rattle.gix_names.specs.Named.{kind_word}
use Rattle.gix_object.specs.Object.{Object, Objects}
use Rattle.gix_statement.specs.WholeStatement as page

-- an object, with the word of its kind
abbrev pub as_page : Object → page.Object
as_page o = record { kind = kind_word o.kind; bytes = o.bytes }

abbrev pub page_objects : Objects → page.Objects
page_objects objects i = option_map as_page (get objects i)
