-- Bytes written in hexadecimal.
use Rattle.std.specs.Prelude.{ℕ, List, Option}
use Rattle.std.specs.Result.{result_ok}
use Rattle.hex.specs.Hex.{decode_sized}

-- the n bytes that 2 n hexadecimal digits of either case write, two digits a byte, the high one
-- first
unfoldable pub hex_bytes : ℕ → List ℕ → Option (List ℕ)
hex_bytes n text = result_ok (decode_sized text n)
