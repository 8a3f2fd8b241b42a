use mathlib.Core.Path.{◌≡◌, sym}
use borrow.Author.Rules.{rules}
use Rattle.std.specs.Prelude.{option_map}
use Rattle.headers.specs.declared.setting.Held.TheVariants.{First, Second}
use Rattle.lent.proofs.SettingSteps.{well-named, in-facts, in-site}
use Rattle.lent.proofs.settings.find_value.Goals as goal

pub returns-in-Some : goal.returns-in-Some
returns-in-Some c =
    let z : c.map.result ≡ option_map First c.filled.result = search rules in
    in-facts _ _ (well-named _ _ c.args.facts.held) (well-named _ _ c.args.site.held) _ _ (sym c.in-Some.ensures) c.filled.result c.filled.ensures _ z

pub returns-in-None : goal.returns-in-None
returns-in-None c =
    let z : c.map-in-None.result ≡ option_map Second c.find_in.result = search rules in
    in-site _ _ (well-named _ _ c.args.facts.held) (well-named _ _ c.args.site.held) _ (sym c.in-None.ensures) c.find_in.result c.find_in.ensures _ z
