-- A light file is printed piece by piece: so far its head, and the pieces of the first blocks.
use Rattle.std.proofs.Common.{◌≡◌, ℕ, ◌+◌, ◌*◌, ◌≤◌, Bool, true, false, List, [], ◌∷◌, ◌++◌, length}
use Rattle.std.proofs.Common.{map}
use Rattle.std.proofs.Common.{take, drop, Option, refl, sym, ap, ◌∙◌, subst, arith}
use Rattle.std.specs.List.{range_with_len}
use Rattle.std.proofs.lemmas.List.{take-append-drop}
use Rattle.std.proofs.lemmas.List.FromFn.{take-map-range_with_len, map-range_with_len_more}
use Rattle.lc_base.specs.declared.digest.Digest.{Digest}
use Rattle.lc_base.specs.declared.row.Row.{Row}
use Rattle.lc_io.specs.Disk.{DiskState, Stays}
use Rattle.lc_io.specs.Outside.{Tell}
use Rattle.block_log.specs.Standing.{NextBlock}
use Rattle.cli_output.specs.cli_promises.Promises.{plain, Telling}
use Rattle.cli_output.specs.light_client.Format.{head_bytes}
use Rattle.cli_output.specs.light_client.Making.{piece_bytes}
use Rattle.cli_output.specs.light_client.declared.piece_limits.TheConstants.{BLOCKS_PER_PIECE}
use Rattle.cli_output.proofs.Plain.{plain_more, plain_cut}

-- the piece with this number
abbrev pub numbered_piece : List Row → List Digest → ℕ → List ℕ
numbered_piece rows digests index = piece_bytes rows digests (BLOCKS_PER_PIECE * index)

-- the head, and so many pieces
abbrev pub first_pieces : List Row → List Digest → ℕ → List (List ℕ)
first_pieces rows digests count =
    head_bytes (length digests) ∷ map (numbered_piece rows digests) (range_with_len 0 count)

-- one more
pieces_more : (rows : List Row) (digests : List Digest) (count : ℕ)
    → first_pieces rows digests (count + 1)
    ≡ first_pieces rows digests count ++ numbered_piece rows digests count ∷ []
pieces_more rows digests count = ap (λ (l : List (List ℕ)). head_bytes (length digests) ∷ l)
    (map-range_with_len_more (numbered_piece rows digests) 0 count count (omega arith))

-- and all others
pieces_split : (rows : List Row) (digests : List Digest) (count whole : ℕ) → count ≤ whole
    → (rest : List (List ℕ)) × (first_pieces rows digests whole
    ≡ first_pieces rows digests count ++ rest)
pieces_split rows digests count whole within =
    let all = map (numbered_piece rows digests) (range_with_len 0 whole) in (
      drop count all,
      ap (λ (l : List (List ℕ)). head_bytes (length digests) ∷ l) (sym (take-append-drop count all)
          ∙ ap (λ (l : List (List ℕ)). l ++ drop count all)
          (take-map-range_with_len (numbered_piece rows digests) 0 whole count within)),
    )

module _ {D : Type 0} (now : D → ℕ) (disk : D → ℕ → Option DiskState)
    (told : D → Option (List Tell)) (next : NextBlock) (rows : List Row)
    (digests : List Digest) where
  pub one_piece : (old mid new : D) (index from : ℕ) (all : Bool) → from ≡ BLOCKS_PER_PIECE * index
      → Telling next now disk told old mid (map plain (first_pieces rows digests index)) true
      → Stays now disk mid new
      → Telling next now disk told mid new (plain (piece_bytes rows digests from) ∷ []) all
      → Telling next now disk told old new (map plain (first_pieces rows digests (index + 1))) all
  one_piece old mid new index from all is so_far stays one =
      let own = subst (λ (n : ℕ). Telling next now disk told mid new
      (plain (piece_bytes rows digests n) ∷ []) all) is one in
      subst (λ (l : List (List ℕ)). Telling next now disk told old new (map plain l) all)
      (sym (pieces_more rows digests index))
      (plain_more now disk told next old mid new (first_pieces rows digests index)
      (numbered_piece rows digests index) all so_far stays own)

  pub cut_pieces : (old new : D) (count whole : ℕ) (all : Bool) → count ≤ whole
      → Telling next now disk told old new (map plain (first_pieces rows digests count)) all
      → Telling next now disk told old new (map plain (first_pieces rows digests whole)) false
  cut_pieces old new count whole all within so_far =
      let split = pieces_split rows digests count whole within in
      subst (λ (l : List (List ℕ)). Telling next now disk told old new (map plain l) false)
      (sym split.1)
      (plain_cut now disk told next old new (first_pieces rows digests count) split.0 all so_far)

  -- the head was printed, or some first bytes of it
  pub head_told : (old new : D) (bytes : List ℕ) (count : ℕ) → bytes ≡ head_bytes count
      → count ≡ length digests → Telling next now disk told old new (plain bytes ∷ []) true
      → Telling next now disk told old new (map plain (first_pieces rows digests 0)) true
  head_told old new bytes count is count_is told_head =
      subst (λ (b : List ℕ). Telling next now disk told old new (plain b ∷ []) true)
      (is ∙ ap head_bytes count_is) told_head

  pub head_cut : (old new : D) (bytes : List ℕ) (count whole : ℕ) → bytes ≡ head_bytes count
      → count ≡ length digests → Telling next now disk told old new (plain bytes ∷ []) false
      → Telling next now disk told old new (map plain (first_pieces rows digests whole)) false
  head_cut old new bytes count whole is count_is told_head =
      cut_pieces old new 0 whole false (omega arith)
      (subst (λ (b : List ℕ). Telling next now disk told old new (plain b ∷ []) false)
      (is ∙ ap head_bytes count_is) told_head)
