use mathlib.Core.Path.{sym}
use borrow.Author.Rules.{rules}
use Rattle.headers.specs.Setting.{setting_of}
use Rattle.headers.proofs.setting.find_setting.Goals as goal

pub returns-in_err-f : goal.returns-in_err-f
unfolding setting_of
returns-in_err-f c =
    let e = c.in_err-f.ensures in
    rw (sym e) (search rules)

pub returns-in_err-s : goal.returns-in_err-s
unfolding setting_of
returns-in_err-s c =
    let d = c.in_ok-f.ensures in
    let e = c.in_err-s.ensures in
    rw (sym d, sym e) (search rules)

pub returns : goal.returns
unfolding setting_of
returns c =
    let d = c.in_ok-f.ensures in
    let e = c.in_ok-s.ensures in
    rw (sym d, sym e) (search rules)
