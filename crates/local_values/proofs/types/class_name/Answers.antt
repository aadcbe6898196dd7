use Rattle.std.proofs.Common.{sym, subst}
use Rattle.std.specs.Prelude.{◌≡◌, IfOk}
use Rattle.local_values.proofs.Named.{leaf_name, name_of}
use Rattle.local_values.proofs.types.class_name.Goals as goal

pub returns-in-Class : goal.returns-in-Class
returns-in-Class c =
    subst (λ own. IfOk c.shared.result (λ name. name ≡ own)) (name_of c.args.value.now _ _ c.in-Class.is)
    c.shared.ensures

pub returns-in_default : goal.returns-in_default
returns-in_default c = sym (leaf_name c.args.value.now c.in_default.not-Class)
