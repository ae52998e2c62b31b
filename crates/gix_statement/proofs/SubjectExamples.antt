-- Subjects of commits, as `git log --format=%s` writes them.
use Rattle.std.proofs.Common.{◌≡◌, ℕ, List, [], ◌∷◌, ◌++◌, codes, refl}
use Rattle.gix_statement.specs.Formats.{subject}

abbrev head : List ℕ
head = codes "tree abababababababababababababababababababab\nauthor A <a> 0\ncommitter A <a> 0\n"

-- the subject of a commit that has this behind its lines for the tree, the author and the committer
abbrev subject_behind : List ℕ → List ℕ
subject_behind text = subject (head ++ text)

one_line : subject_behind (codes "\nhello\n") ≡ codes "hello"
one_line = refl

lines_are_joined_from_the_first_that_is_not_blank :
    subject_behind (codes "\n\n  \n\t\nhello  \n world \r\nthird\n\nbody\n") ≡ codes "hello  world third"
lines_are_joined_from_the_first_that_is_not_blank = refl

white_space_stays_at_the_front : subject_behind (codes "\n  lead\n") ≡ codes "  lead"
white_space_stays_at_the_front = refl

no_empty_line : subject_behind [] ≡ []
no_empty_line = refl

no_message : subject_behind (codes "\n") ≡ []
no_message = refl

empty_lines_alone : subject_behind (codes "\n\n\n") ≡ []
empty_lines_alone = refl

spaces_are_a_blank_line : subject_behind (codes "\nx\n \ny\n") ≡ codes "x"
spaces_are_a_blank_line = refl

vertical_tab_is_no_white_space :
    subject_behind (codes "\nabc" ++ 11 ∷ (codes "d" ++ 11 ∷ codes "\nz\n")) ≡ codes "abc" ++ 11 ∷ (codes "d" ++ 11 ∷ codes " z")
vertical_tab_is_no_white_space = refl

form_feed_is_no_white_space : subject_behind (codes "\nabc" ++ 12 ∷ codes "\nz") ≡ codes "abc" ++ 12 ∷ codes " z"
form_feed_is_no_white_space = refl

carriage_returns_are_white_space : subject_behind (codes "\n\r\nabc\r\ndef") ≡ codes "abc def"
carriage_returns_are_white_space = refl

blank_line_of_a_signature_is_not_empty : subject_behind (codes "gpgsig a\n b\n \n c\n\nsubj\n") ≡ codes "subj"
blank_line_of_a_signature_is_not_empty = refl

byte_0_ends_it : subject_behind (codes "\nab" ++ 0 ∷ codes "cd\nef\n") ≡ codes "ab"
byte_0_ends_it = refl
