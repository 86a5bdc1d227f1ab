-- Recording a piece adds it after the others and changes none of them.
use Rattle.std.proofs.Common.{◌≡◌, ℕ, ◌+◌, ◌-◌, ◌≤◌, List, [], ◌∷◌, ◌++◌, length, take, drop, refl, ap, ◌∙◌, arith}
use Rattle.std.specs.List.{AllByRecursion}
use Rattle.std.proofs.lemmas.List.{take-append-le, drop-append-le, drop_at, take_all, length-drop, length-append, map_push}
use Rattle.lc_io.specs.Outside.{Tell}
use Rattle.lc_io.specs.Marks.{piece_at, pieces, IsWithin}
use Rattle.lc_io.specs.declared.mem_wire.Mark.{Mark}

-- bytes after a piece do not change it
piece_stays : (bytes more : List ℕ) (m : Mark) → IsWithin (length bytes) m → piece_at (bytes ++ more) m ≡ piece_at bytes m
piece_stays bytes more m within =
    let start_in : m.start ≤ length bytes = omega arith in
    let e : drop m.start (bytes ++ more) ≡ drop m.start bytes ++ more = drop-append-le m.start bytes more start_in in
    let long : m.end - m.start ≤ length (drop m.start bytes) = omega (arith, length-drop m.start bytes) in
    let f : take (m.end - m.start) (drop m.start (bytes ++ more)) ≡ take (m.end - m.start) (drop m.start bytes) = ap (take (m.end - m.start)) e ∙ take-append-le (m.end - m.start) (drop m.start bytes) more long in
    ap (λ (piece : List ℕ). record { at = m.at; bytes = piece }) f

pub pieces_stay : (bytes more : List ℕ) (marks : List Mark) → AllByRecursion (IsWithin (length bytes)) marks → pieces (bytes ++ more) marks ≡ pieces bytes marks
pieces_stay bytes more [] within = refl
pieces_stay bytes more (m ∷ marks) within =
    let first = piece_stays bytes more m within.0 in
    let others = pieces_stay bytes more marks within.1 in
    cc

-- the piece after all others
last_piece : (bytes piece : List ℕ) (at : ℕ) → piece_at (bytes ++ piece) (record { at = at; start = length bytes; end = length bytes + length piece }) ≡ record { at = at; bytes = piece }
last_piece bytes piece at =
    let len : length bytes + length piece - length bytes ≡ length piece = omega arith in
    let after : drop (length bytes) (bytes ++ piece) ≡ piece = drop_at bytes piece (length bytes) refl in
    let whole : take (length piece) piece ≡ piece = take_all (length piece) piece (omega arith) in
    ap (λ (read : List ℕ). record { at = at; bytes = read }) (ap (λ (n : ℕ). take n (drop (length bytes) (bytes ++ piece))) len ∙ ap (take (length piece)) after ∙ whole)

-- recording a piece adds it after the others
pub more_pieces : (bytes piece : List ℕ) (marks : List Mark) (at : ℕ) → AllByRecursion (IsWithin (length bytes)) marks → pieces (bytes ++ piece) (marks ++ record { at = at; start = length bytes; end = length bytes + length piece } ∷ []) ≡ pieces bytes marks ++ record { at = at; bytes = piece } ∷ []
more_pieces bytes piece marks at within =
    let new : Mark = record { at = at; start = length bytes; end = length bytes + length piece } in
    map_push (piece_at (bytes ++ piece)) marks new
    ∙ ap (λ (told : List Tell). told ++ piece_at (bytes ++ piece) new ∷ []) (pieces_stay bytes piece marks within)
    ∙ ap (λ (tell : Tell). pieces bytes marks ++ tell ∷ []) (last_piece bytes piece at)

-- the marks name bytes of the record, also the new one
pub more_within : (bytes piece : List ℕ) (marks : List Mark) (at : ℕ) → AllByRecursion (IsWithin (length bytes)) marks → AllByRecursion (IsWithin (length (bytes ++ piece))) (marks ++ record { at = at; start = length bytes; end = length bytes + length piece } ∷ [])
more_within bytes piece [] at within = ((omega arith, omega (arith, length-append bytes piece)), tt)
more_within bytes piece (m ∷ marks) at within =
    ((omega (arith, within.0.0), omega (arith, within.0.1, length-append bytes piece)), more_within bytes piece marks at within.1)
