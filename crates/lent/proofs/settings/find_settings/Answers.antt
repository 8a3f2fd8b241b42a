use Rattle.std.proofs.Common.{Some}
use Rattle.lent.proofs.SettingSteps.{well-named, no_name, no-port, no-software, no-addr, wrong-auth, all_found}
use Rattle.lent.specs.Places.{FactFound, ValueFound, PortFound}
use Rattle.octets.specs.Text.{bytes}
use Rattle.lent.proofs.settings.find_settings.Goals as goal
use Rattle.lent.proofs.settings.find_settings.Goals.{In_ok-name, In_ok-port, In_ok-software, In_ok-addr}

-- what was found so far
name-got : (c : In_ok-name) → ValueFound c.args.facts.block.now c.args.site.block.now (bytes "SERVER_NAME") (Some c.in_ok-name.name)
name-got c = c.in_ok-name.ensures {u = tt}

port-got : (c : In_ok-port) → PortFound c.args.facts.block.now c.args.site.block.now (Some c.in_ok-port.port)
port-got c = c.in_ok-port.ensures {u = tt}

software-got : (c : In_ok-software) → ValueFound c.args.facts.block.now c.args.site.block.now (bytes "SERVER_SOFTWARE") (Some c.in_ok-software.software)
software-got c = c.in_ok-software.ensures {u = tt}

addr-got : (c : In_ok-addr) → FactFound c.args.facts.block.now (bytes "REMOTE_ADDR") (Some c.in_ok-addr.addr)
addr-got c = c.in_ok-addr.ensures {u = tt}

pub returns-in_err-name : goal.returns-in_err-name
returns-in_err-name c =
    let e = c.in_err-name.ensures in
    rw c.from_residual.ensures (no_name _ _ (well-named _ _ c.args.facts.held) (well-named _ _ c.args.site.held) e)

pub returns-in_err-port : goal.returns-in_err-port
returns-in_err-port c =
    let e = c.in_err-port.ensures in
    let k = goal.at.returns-in_err-port c in
    rw c.from_residual-in_err-port.ensures
    (no-port _ _ (well-named _ _ c.args.facts.held) (well-named _ _ c.args.site.held) _ (name-got k.In_ok-name) e)

pub returns-in_err-software : goal.returns-in_err-software
returns-in_err-software c =
    let e = c.in_err-software.ensures in
    let k = goal.at.returns-in_err-software c in
    rw c.from_residual-in_err-software.ensures
    (no-software _ _ (well-named _ _ c.args.facts.held) (well-named _ _ c.args.site.held) _ (name-got k.In_ok-name) _ (port-got k.In_ok-port) e)

pub returns-in_err-addr : goal.returns-in_err-addr
returns-in_err-addr c =
    let e = c.in_err-addr.ensures in
    let k = goal.at.returns-in_err-addr c in
    rw c.from_residual-in_err-addr.ensures
    (no-addr _ _ (well-named _ _ c.args.facts.held) (well-named _ _ c.args.site.held) _ (name-got k.In_ok-name) _ (port-got k.In_ok-port) _ (software-got k.In_ok-software) e)

pub returns-in_err-auth : goal.returns-in_err-auth
returns-in_err-auth c =
    let e = c.in_err-auth.ensures in
    let k = goal.at.returns-in_err-auth c in
    rw c.from_residual-in_err-auth.ensures
    (wrong-auth _ _ (well-named _ _ c.args.facts.held) (well-named _ _ c.args.site.held) _ (name-got k.In_ok-name) _ (port-got k.In_ok-port) _ (software-got k.In_ok-software) _ (addr-got k.In_ok-addr) e)

pub returns : goal.returns
returns c =
    let a = c.in_ok-auth.ensures in
    let k = goal.at.returns c in
    all_found _ _ (well-named _ _ c.args.facts.held) (well-named _ _ c.args.site.held) _ (name-got k.In_ok-name) _ (port-got k.In_ok-port) _ (software-got k.In_ok-software) _ (addr-got k.In_ok-addr) _ a
