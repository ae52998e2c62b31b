use Rattle.std.proofs.Common.{ℕ, List, [], ◌++◌, ◌≡◌, ◌+◌, suc, sym, ap, ◌∙◌, arith, map, string_bytes, take, drop, length, append-nil, length-drop}
use Rattle.std.specs.Str.Lossy.{utf8_lossy}
use Rattle.std.proofs.lemmas.List.{take_rest}
use Rattle.gix_memory_commands.specs.WordsOf.{words_of}
use Rattle.gix_memory_commands.proofs.WordFacts.{words_last, words_next, words_put}
use Rattle.gix_memory_commands.proofs.words.words_of.Goals as goal

pub overflow_add-rest : goal.overflow_add-rest
overflow_add-rest c = omega (arith, c.loop-end.invariant.within, c.in-Some.ensures.0.high)

pub loop-end-preserved : goal.loop-end-preserved
loop-end-preserved c =
    let rest : List ℕ = c.loop-end.rest.now in
    let end : ℕ = c.in-Some.end in
    let found = c.in-Some.ensures in
    let behind : drop (end + 1) rest ≡ drop (suc end) rest = ap (λ k. drop k rest) {x = end + 1} {y = suc end} (omega arith) in
    let whole = words_next rest end found.0.high found.1 (λ i l. found.0.before i (omega arith) l) in
    let is = take_rest rest (end + 1) in
    record {
      found =
          ap (λ t. map string_bytes c.push.new.self.items ++ map utf8_lossy (words_of t)) (is ∙ behind)
          ∙ ap (λ ws. map string_bytes ws ++ map utf8_lossy (words_of (drop (suc end) rest))) c.in_ok-push.ensures.items
          ∙ words_put string_bytes c.loop-end.words.items _ (take end rest) (words_of (drop (suc end) rest)) c.in_ok-from_utf8_lossy.ensures.lossy
          ∙ ap (λ ws. map string_bytes c.loop-end.words.items ++ map utf8_lossy ws) (sym whole)
          ∙ c.loop-end.invariant.found;
      within = omega (arith, c.loop-end.invariant.within, ap length is, length-drop (end + 1) rest);
    }

pub returns : goal.returns
returns c =
    let rest : List ℕ = c.loop-end.rest.now in
    ap (map string_bytes) c.in_ok-push-2.ensures.items
    ∙ sym (append-nil _)
    ∙ words_put string_bytes c.loop-end.words.items _ rest [] c.in_ok-from_utf8_lossy-2.ensures.lossy
    ∙ ap (λ ws. map string_bytes c.loop-end.words.items ++ map utf8_lossy ws) (sym (words_last rest (λ i l e. c.in_default.ensures i (omega arith) l e)))
    ∙ c.loop-end.invariant.found
