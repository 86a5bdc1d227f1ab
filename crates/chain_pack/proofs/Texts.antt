-- A text is read as JSON exactly if it is UTF-8 and the reader reads it.
use Rattle.std.proofs.Common.{◌≡◌, ℕ, List, Bool, true, false, Some, None, refl}
use Rattle.std.specs.Prelude.{IsUtf8, if◌then◌else◌}
use Rattle.std.specs.Str.{is_utf8}
use Rattle.std.proofs.lemmas.Str.{is_utf8-from_IsUtf8, IsUtf8-from_is_utf8}
use Rattle.serde_json.specs.Data.{Data}
use Rattle.serde_json.specs.Read.{read}
use Rattle.chain_pack.specs.Json.{json_in}

pub found : (text : List ℕ) (json : Data) → IsUtf8 text → read text ≡ Some json → json_in text ≡ Some json
found text json utf8 is = rw (is_utf8-from_IsUtf8 text utf8) is

by_test : (test : Bool) (text : List ℕ) → (test ≡ true → read text ≡ None) → (if test then read text else None) ≡ None
by_test true text refused = refused refl
by_test false text refused = refl

pub refused : (text : List ℕ) → (IsUtf8 text → read text ≡ None) → json_in text ≡ None
refused text none = by_test (is_utf8 text) text (λ e. none (IsUtf8-from_is_utf8 text e))
