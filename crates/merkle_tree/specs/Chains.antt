-- Digests of lists, item by item, and texts that name other texts by their digests.
use Rattle.std.specs.Prelude.{◌≡◌, ℕ, List, [], ◌∷◌, length, Option, Some, None, Contains}
use Rattle.std.specs.List.{fold}
use Rattle.sha2.specs.Sha256.{sha256}

-- ---- digests of lists

-- The digest of a list: that of each item's text, which has the digest of the items before it.
abbrev pub chain_digest : {A : Type 0} → (List ℕ → A → List ℕ) → List ℕ → List A → List ℕ
chain_digest text digest items = fold (λ digest item. sha256 (text digest item)) digest items

-- The texts that are hashed for the digest of a list.
abbrev pub chain_texts : {A : Type 0} → (List ℕ → A → List ℕ) → List ℕ → List A → List (List ℕ)
chain_texts text digest [] = []
chain_texts text digest (item ∷ items) = text digest item ∷ chain_texts text (sha256 (text digest item)) items

-- The texts of two items of these lists are equal only if the items are, and the digests before
-- them.
pub record AreToldApart {A : Type 0} (text : List ℕ → A → List ℕ) (xs ys : List A) : Type 0 where
  pub apart : (d e : List ℕ) (x y : A) → Contains xs x → Contains ys y → length d ≡ 32 → length e ≡ 32 → text d x ≡ text e y → (d ≡ e) × (x ≡ y)

-- ---- walks from text to text

-- The place of the next text of a walk, and its digest.
pub record Expected : Type 0 where
  pub place : ℕ
  pub digest : List ℕ

-- The texts of a walk have the digests that are expected: that of each text is named by the one
-- before it, and the last text names none.
abbrev pub Walks : (List ℕ → Option Expected) → Option Expected → List (List ℕ) → Type 0
Walks next None [] = Unit {0}
Walks next (Some expected) [] = ⊥
Walks next None (text ∷ texts) = ⊥
Walks next (Some expected) (text ∷ texts) = (sha256 text ≡ expected.digest) × Walks next (next text) texts

-- What is expected is the digest of the text at its place.
abbrev pub IsOfPlace : (ℕ → Option (List ℕ)) → Expected → Type 0
IsOfPlace text_at expected = (text : List ℕ) × (text_at expected.place ≡ Some text) × (sha256 text ≡ expected.digest)

-- Each text that has a place is one of these, and names the text at another place by its digest.
pub record AreLinked (next : List ℕ → Option Expected) (text_at : ℕ → Option (List ℕ)) (own : List (List ℕ)) : Type 0 where
  pub listed : (place : ℕ) (text : List ℕ) → text_at place ≡ Some text → Contains own text
  pub onward : (place : ℕ) (text : List ℕ) (expected : Expected) → text_at place ≡ Some text → next text ≡ Some expected → IsOfPlace text_at expected

-- Each text of a walk is the one at the place that is expected.
abbrev pub AreOfPlaces : (List ℕ → Option Expected) → (ℕ → Option (List ℕ)) → Option Expected → List (List ℕ) → Type 0
AreOfPlaces next text_at expected [] = Unit {0}
AreOfPlaces next text_at None (text ∷ texts) = ⊥
AreOfPlaces next text_at (Some expected) (text ∷ texts) = (text_at expected.place ≡ Some text) × AreOfPlaces next text_at (next text) texts
