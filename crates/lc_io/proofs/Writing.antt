-- What a writer holds after several writes is a prefix of what is to be written.
use Rattle.std.proofs.Common.{◌≡◌, ℕ, ◌+◌, ◌-◌, List, length, take, drop, Option, arith}
use Rattle.std.proofs.Math.Seq.{take-add}
use Rattle.std.proofs.lemmas.List.{take_all, length-drop}
use Rattle.std.specs.List.{slice_range}
use Rattle.std.specs.Io.KnownBytes.{Appends}
use Rattle.std.proofs.KnownBytes.{Appends-trans}

-- writing some of the remaining bytes extends the written prefix
pub written_more : (first before now : Option (List ℕ)) (bytes : List ℕ) (told count : ℕ)
    → Appends first before (take told bytes) → Appends before now (take count (slice_range bytes told (length bytes))) → Appends first now (take (told + count) bytes)
written_more first before now bytes told count so_far next =
    let rest : take (length bytes - told) (drop told bytes) ≡ drop told bytes = take_all (length bytes - told) (drop told bytes) (omega (arith, length-drop told bytes)) in
    let next_there : Appends before now (take count (drop told bytes)) = Prim.rw (← rest) next in
    Prim.rw (take-add told count bytes) (Appends-trans first before now (take told bytes) (take count (drop told bytes)) so_far next_there)
