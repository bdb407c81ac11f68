-- The first row of a file.
use Rattle.std.proofs.Common.{◌≡◌, ℕ, List, [], ◌∷◌, get_or, ap, sym, Option, Some, None}
use Rattle.std.specs.Prelude.{codes}
use Rattle.lt_cover.specs.declared.rows.Version.{Version}
use Rattle.lt_cover.specs.Coverage.Text.{header, version_word}
use Rattle.lt_cover.specs.Coverage.Rows.{Reads, IsAny}

-- the second field tells the version
pub header_read : (format word tag state by : List ℕ) (r : Option Version) → format ≡ codes "ltest-cover" → tag ≡ codes "tag" → state ≡ codes "state" → by ≡ codes "by" → Reads {X = Version} IsAny version_word word r → Reads {X = Version} IsAny header (format ∷ word ∷ tag ∷ state ∷ by ∷ []) r
header_read format word tag state by None f t s b h = λ v any e. h v tt (ap (λ (fields : List (List ℕ)). get_or fields 1 []) e)
header_read format word tag state by (Some v) f t s b h = (tt, λ i. sym f i ∷ h.1 i ∷ sym t i ∷ sym s i ∷ sym b i ∷ [])
