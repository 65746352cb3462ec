-- An error that is handed on.
use Rattle.std.proofs.Common.{◌≡◌, Err, ap}
use Rattle.std.specs.Prelude.{IsErrOf}
use Rattle.region_store.specs.declared.error.RegionError.{RegionError}

pub handed_on : {T U : Type 0} (e x : RegionError) → IsErrOf {T = T} (Err e) x → IsErrOf {T = U} (Err e) x
handed_on e x is = let same : e ≡ x = cc is in ap Err same
