-- Two blocks are in two intervals at the levels up to the highest binary digit in which they
-- differ, and in one interval at each level above.
use Rattle.std.proofs.Common.{◌≡◌, ◌∙◌, ℕ, suc, ◌*◌, ◌/◌, ◌^◌, ◌<◌, ◌≤◌, true, false, sym, ap, arith, inl, inr}
use Rattle.std.specs.Prelude.{bit_xor, nat_lt}
use Rattle.std.specs.Int.Bits.{xor_add_and, xor_self}
use Rattle.std.proofs.lemmas.Nat.{and_le_l, and_le_r, xor_shr, pow_pos, le-div}
use Rattle.std.proofs.lemmas.Bool.{cases_lt, lt-ltb, le-ltb}
use Rattle.std.proofs.Math.Nat.{div-eq_of_lt, two-pow-succ}
use Rattle.std.proofs.Math.Pow.{pow_mono}
use Rattle.skip_links.proofs.Falls.{interval_mono}

xor_equal : (a b : ℕ) → bit_xor a b ≡ 0 → a ≡ b
xor_equal a b e = omega (arith, e, xor_add_and a b, and_le_l a b, and_le_r a b)

-- Two blocks are in two intervals at each level up to the highest digit in which they differ.
pub apart : (level p u : ℕ) → p < u → 2 ^ level ≤ bit_xor p u → nat_lt (p / 2 ^ level) (u / 2 ^ level) ≡ true
apart level p u less high = elim (cases_lt (p / 2 ^ level) (u / 2 ^ level)) [
  | inl l ↦ lt-ltb (p / 2 ^ level) (u / 2 ^ level) l
  | inr g ↦
      let some : 1 ≤ bit_xor p u / 2 ^ level = le-div 1 (bit_xor p u) (2 ^ level) (pow_pos level) (omega (arith, high)) in
      let same : u / 2 ^ level ≡ p / 2 ^ level = omega (arith, g, interval_mono level p u (omega (arith, less))) in
      let none : bit_xor p u / 2 ^ level ≡ 0 = xor_shr p u level ∙ ap (bit_xor (p / 2 ^ level)) same ∙ xor_self (p / 2 ^ level) in
      absurd (omega (arith, some, none))
]

-- Two blocks are in one interval at each level above the highest digit in which they differ.
pub together : (level p u : ℕ) → bit_xor p u < 2 ^ level → nat_lt (p / 2 ^ level) (u / 2 ^ level) ≡ false
together level p u low =
    let same = xor_equal (p / 2 ^ level) (u / 2 ^ level) (sym (xor_shr p u level) ∙ div-eq_of_lt low) in
    le-ltb (p / 2 ^ level) (u / 2 ^ level) (omega (arith, same))

pub higher : (height level n : ℕ) → n < 2 * 2 ^ height → height < level → n < 2 ^ level
higher height level n low less = omega (arith, low, two-pow-succ height, pow_mono {i = suc height} {j = level} (omega (arith, less)))
