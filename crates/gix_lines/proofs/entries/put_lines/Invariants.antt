use Rattle.std.proofs.Common.{◌≤◌, List, Ok, drop, flat_map, length, take}
use Rattle.gix_tree.specs.Recorder.{Record}
use Rattle.gix_tree.specs.Walk.{trees_of}
use Rattle.gix_lines.specs.Files.{file_line}
use Rattle.gix_lines.specs.Inside.{AreLeft}
use Rattle.gix_lines.specs.Output.{Puts}
use Rattle.gix_lines.proofs.entries.put_lines.Given as goal

-- the lines so far were put, and the walk has the other entries before it
abbrev pub invariant-lines : goal.invariant-lines
invariant-lines g l =
    (records : List Record) → AreLeft (trees_of l.fn.store) l.fn.walk records → l.fn.number ≤ length records
    → AreLeft (trees_of l.fn.store) l.walk (drop l._line records)
    × Puts (g.W.Write.contents l.fn.writer) l.fn.buffer (flat_map (file_line l.fn.ending) (take l._line records)) (Ok tt) (g.W.Write.contents l.writer) l.buffer
