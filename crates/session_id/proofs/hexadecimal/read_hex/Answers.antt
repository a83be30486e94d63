use Rattle.std.proofs.Common.{sym, ap, ◌∙◌}
use Rattle.std.specs.Result.{result_ok}
use Rattle.hex.proofs.HexLemmas.{IsOk-decode_sized}
use Rattle.session_id.specs.Hexadecimal.{hex_bytes}
use Rattle.session_id.proofs.hexadecimal.read_hex.Goals as goal

pub returns-clause-value : goal.returns-clause-value
unfolding hex_bytes
returns-clause-value c = c.ok.ensures.value ∙ ap result_ok c.from_hex.ensures

pub returns-clause-found : goal.returns-clause-found
returns-clause-found c =
    let digits = IsOk-decode_sized c.args.text.now 15 in
    let sized = c.from_hex.ensures in (
      λ h. digits.0 (rw sized at (sym c.ok.ensures.variant ∙ h)),
      λ h. c.ok.ensures.variant ∙ rw sized (digits.1 h),
    )
