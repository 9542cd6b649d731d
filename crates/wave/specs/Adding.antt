-- A node's sums as they are made, one pipe end at a time. Inner definitions: no public call cites them.
use Rattle.std.specs.Prelude.{Float}
use Rattle.fields.specs.Real.{◌⊞◌, zero64}
use Rattle.wave.specs.declared.Sums.{Sums}

-- the sums before any end
unfoldable pub no_sums : Sums
no_sums = record { b = zero64; t = zero64 }

-- with K, and with S, of one more end
unfoldable pub with_k : Sums → Float → Sums
with_k s K = record { b = s.b ⊞ K; t = s.t }

unfoldable pub with_s : Sums → Float → Sums
with_s s S = record { b = s.b; t = s.t ⊞ S }
