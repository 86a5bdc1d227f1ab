-- What a crash during several calls may leave, after one call more.
use Rattle.std.proofs.Common.{◌≡◌, ◌⊎◌, inl, inr, ℕ, List, refl, sym, ◌∙◌, ap, arith}
use Rattle.std.specs.Prelude.{Option, Some}
use Rattle.std.specs.Option.{is_some}
use Rattle.std.proofs.lemmas.Bool.{cases_lt}
use Rattle.lc_io.specs.Disk.{DiskState, Turns, Stays}
use Rattle.disk_model.specs.Disk.{IsImage, Keeps, LeftSince}

module _ {D : Type 0} (now : D → ℕ) (disk : D → ℕ → Option DiskState) where
  -- before the first call
  pub started : (old : D) (P : List ℕ → Type 0) → ((s : DiskState) (c : List ℕ) → disk old (now old) ≡ Some s → IsImage s c → P c) → Keeps now disk old old P
  started old P here = record {
    later = omega arith;
    past = λ t le. refl;
    each = λ t s c from to is image. let same : t ≡ now old = omega arith in here s c (ap (disk old) (sym same) ∙ is) image;
    told = refl;
  }

  -- one call more
  pub goes_on : (old mid new : D) (P : List ℕ → Type 0) (state : Option DiskState) → Keeps now disk old mid P → Turns now disk mid new state → is_some state ≡ is_some (disk mid (now mid))
      → ((s : DiskState) (c : List ℕ) → state ≡ Some s → IsImage s c → P c) → Keeps now disk old new P
  goes_on old mid new P state so_far turn told here = record {
    later = omega (arith, so_far.later, turn.later);
    past = λ t le. turn.past t (omega (arith, so_far.later)) ∙ so_far.past t le;
    each = λ t s c from to is image. elim (cases_lt (now mid) t) [
      | inr before ↦ so_far.each t s c from before (sym (turn.past t before) ∙ is) image
      | inl after ↦ here s c (sym (turn.here t after to) ∙ is) image
    ];
    told = ap is_some turn.last ∙ told ∙ so_far.told;
  }

  -- several calls after several calls
  pub then_keeps : (old mid new : D) (P : List ℕ → Type 0) → Keeps now disk old mid P → Keeps now disk mid new P → Keeps now disk old new P
  then_keeps old mid new P first second = record {
    later = omega (arith, first.later, second.later);
    past = λ t le. second.past t (omega (arith, first.later)) ∙ first.past t le;
    each = λ t s c from to is image. elim (cases_lt (now mid) t) [
      | inr before ↦ first.each t s c from before (sym (second.past t before) ∙ is) image
      | inl after ↦ second.each t s c (omega arith) to is image
    ];
    told = second.told ∙ first.told;
  }

  -- a fact of whatever a crash may leave, and a weaker fact
  pub weaker : (old new : D) (P Q : List ℕ → Type 0) → Keeps now disk old new P → ((c : List ℕ) → P c → Q c) → Keeps now disk old new Q
  weaker old new P Q keeps leads = record { later = keeps.later; past = keeps.past; each = λ t s c from to is image. leads c (keeps.each t s c from to is image); told = keeps.told }

  -- what a crash since an earlier moment may have left, it may have left before these calls, or a
  -- crash during them may leave it
  pub since : (old new : D) (P : List ℕ → Type 0) (m : ℕ) (c : List ℕ) → Keeps now disk old new P → LeftSince now disk new m c → LeftSince now disk old m c ⊎ P c
  since old new P m c keeps (t, from, to, s, is, image) = elim (cases_lt (now old) t) [
    | inr before ↦ inl (t, from, before, s, sym (keeps.past t before) ∙ is, image)
    | inl after ↦ inr (keeps.each t s c (omega arith) to is image)
  ]

  -- calls that leave the disk as it was
  pub stays_on : (old mid new : D) → Stays now disk old mid → Stays now disk mid new → Stays now disk old new
  stays_on old mid new first second = record {
    later = omega (arith, first.later, second.later);
    past = λ t le. second.past t (omega (arith, first.later)) ∙ first.past t le;
    here = λ t after to. elim (cases_lt (now mid) t) [
      | inr before ↦ second.past t before ∙ first.here t after before
      | inl past ↦ second.here t past to ∙ first.last
    ];
    last = second.last ∙ first.last;
  }

  -- before the first of these calls
  pub stays_here : (old : D) → Stays now disk old old
  stays_here old = record { later = omega arith; past = λ t le. refl; here = λ t after to. absurd (omega (arith, after, to)); last = refl }
