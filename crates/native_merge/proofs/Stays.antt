-- What sources and symbolicators keep over several calls.
use Rattle.std.proofs.Common.{◌∙◌, refl, arith}
use Rattle.native_merge.specs.Sources.{SourcesSeen, Stay}
use Rattle.native_merge.specs.Symbols.{SymbolsSeen, SymbolsStay}

pub stay_same : (seen : SourcesSeen) → Stay seen seen
stay_same seen = record { exists = refl; told = refl; faults = omega arith }

pub stay_then : {a b c : SourcesSeen} → Stay a b → Stay b c → Stay a c
stay_then h k = record {
  exists = k.exists ∙ h.exists;
  told = k.told ∙ h.told;
  faults = let x = h.faults in let y = k.faults in omega arith;
}

pub symbols_same : (seen : SymbolsSeen) → SymbolsStay seen seen
symbols_same seen = record {
  lacks = λ addr. (λ h. h, λ h. h);
  tells = refl;
  gives = λ addr lines frames. (λ h. h, λ h. h);
  faults = omega arith;
}

pub symbols_then : {a b c : SymbolsSeen} → SymbolsStay a b → SymbolsStay b c → SymbolsStay a c
symbols_then h k = record {
  lacks = λ addr. (λ x. (h.lacks addr).0 ((k.lacks addr).0 x), λ x. (k.lacks addr).1 ((h.lacks addr).1 x));
  tells = k.tells ∙ h.tells;
  gives = λ addr lines frames. (
    λ x. (h.gives addr lines frames).0 ((k.gives addr lines frames).0 x),
    λ x. (k.gives addr lines frames).1 ((h.gives addr lines frames).1 x),
  );
  faults = let x = h.faults in let y = k.faults in omega arith;
}
