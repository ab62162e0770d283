-- Elements one after the other.
use Rattle.std.proofs.Common.{◌≡◌, ℕ, suc, ◌+◌, ◌-◌, ◌<◌, List, Option, ap, arith}
use Rattle.formats.specs.Fields.{◌then◌}
use Rattle.formats.specs.Records.{element_at, all_at}

-- i of m elements are read: what is left fails at the next, or goes on behind it
pub all_step : {K : Type 0} (w : ℕ) (u : List ℕ → Option K) (s : List ℕ) (m i at : ℕ) → i < m
    → all_at w u (m - i) s at ≡ (element_at w u s at then (λ _. all_at w u (m - (i + 1)) s (at + w)))
all_step w u s m i at lt = let left : m - i ≡ suc (m - (i + 1)) = omega arith in ap (λ (n : ℕ). all_at w u n s at) left
