-- What the options that have no value say: a table.
use Rattle.std.specs.Prelude.{List, ℕ, true, if◌then◌else◌, Option, Some, None, codes}
use Rattle.std.specs.Str.{bytes_eq}
use Rattle.gix_options.specs.declared.options.Options.{Options}
use Rattle.gix_options.specs.declared.options.Rows.TheVariants as rows

-- options with one more of this name, if it is the name of one
abbrev pub with_flag : List ℕ → Options → Option Options
with_flag name o =
    if bytes_eq name (codes "--merges") then Some (record o { merges = true })
    else if bytes_eq name (codes "--no-merges") then Some (record o { no_merges = true })
    else if bytes_eq name (codes "--count") then Some (record o { counts = true })
    else if bytes_eq name (codes "--reverse") then Some (record o { is_reversed = true })
    else if bytes_eq name (codes "--timestamp") then Some (record o { gives_time = true })
    else if bytes_eq name (codes "--parents") then Some (record o { gives_parents = true })
    else if bytes_eq name (codes "--oneline") then Some (record o { gives_subject = true })
    else if bytes_eq name (codes "--json") then Some (record o { as_json = true })
    else if bytes_eq name (codes "--no-graph") then Some (record o { rows = rows.Unused })
    else if bytes_eq name (codes "--trust-graph") then Some (record o { rows = rows.Trusted })
    else if bytes_eq name (codes "--border") then Some (record o { takes_border = true })
    else if bytes_eq name (codes "--verbose") then Some (record o { is_verbose = true })
    else if bytes_eq name (codes "--first-parent") then Some (record o { by_first_parents = true })
    else if bytes_eq name (codes "-z") then Some (record o { ends_in_zero = true })
    else if bytes_eq name (codes "--names") then Some (record o { gives_names = true })
    else None
