use Rattle.std.proofs.Common.{◌++◌, ◌≡◌, ◌≤◌, length, map, string_bytes}
use Rattle.std.specs.Str.Lossy.{utf8_lossy}
use Rattle.gix_memory_commands.specs.WordsOf.{words_of}
use Rattle.gix_memory_commands.proofs.words.words_of.Given as goal

-- the words that were found, and behind them those of the text that is left, are the words of the text
abbrev pub invariant-loop-end : goal.invariant-loop-end
invariant-loop-end l = record {
  found : map string_bytes l.words.items ++ map utf8_lossy (words_of l.rest) ≡ map utf8_lossy (words_of l.fn.text);
  within : length l.rest ≤ length l.fn.text;
}

abbrev pub decreases-loop-end : goal.decreases-loop-end
decreases-loop-end l = length l.rest
