-- Worked examples of words, answers and rooms.
use Rattle.std.specs.Prelude.{◌≡◌, [], ◌∷◌, codes, refl}
use Rattle.gix_memory_commands.specs.Room.{put_in, answer_to, too_small}
use Rattle.gix_memory_commands.specs.WordsOf.{words_of}

pub space_and_newline : words_of (codes "topo A\n^B") ≡ codes "topo" ∷ codes "A" ∷ codes "^B" ∷ []
space_and_newline = refl

pub newline_at_the_end : words_of (codes "topo A\n") ≡ codes "topo" ∷ codes "A" ∷ [] ∷ []
newline_at_the_end = refl

pub no_text : words_of [] ≡ [] ∷ []
no_text = refl

pub rest_of_the_room : put_in (codes "ab") (codes "xyz") ≡ codes "abz"
rest_of_the_room = refl

pub room_too_small : put_in (codes "abcd") (codes "xyz") ≡ codes "xyz"
room_too_small = refl

pub needed : answer_to (codes "abcd") (codes "xyz") ≡ too_small 4
needed = refl
