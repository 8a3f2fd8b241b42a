use mathlib.Core.Path.{refl, ap}
use native.Mathlib.Omega.{arith}
use borrow.Author.Rules.{rules}
use lib.ListN.{length, length-append}
use Rattle.headers.specs.Block.{printed}
use Rattle.variables.specs.FixedVariables.{content_variables, path_variables, request_variables, server_variables}
use Rattle.variables.proofs.Writers.{left-first, left-rest, left-room, left-more, left-last}
use Rattle.variables.proofs.Blocks.{behind_server, behind_request, behind_path, behind_content, block-parts}
use Rattle.variables.proofs.block.put_block.Goals as goal

pub put_content-requires : goal.put_content-requires
put_content-requires c =
    let s = c.args.s.now in
    let known = c.requires.0 in
    ((known.settings.auth, known.fields.type_inside), omega (arith, c.requires.1, ap length (block-parts s known c.args.size), length-append (printed (content_variables s c.args.size)) (behind_content s)))

pub put_path-requires : goal.put_path-requires
put_path-requires c =
    let s = c.args.s.now in
    let known = c.requires.0 in
    let first = left-first (behind_content s) (block-parts s known c.args.size) (omega (arith, c.requires.1)) c.put_content.ensures in
    ((known.settings.addr, known.line, known.name), left-room (printed (path_variables s)) _ refl first)

pub put_request-requires : goal.put_request-requires
put_request-requires c =
    let s = c.args.s.now in
    let known = c.requires.0 in
    let first = left-first (behind_content s) (block-parts s known c.args.size) (omega (arith, c.requires.1)) c.put_content.ensures in
    let second = left-more (behind_path s) refl first c.put_path.ensures in
    ((known.settings.auth, known.line.method_inside, known.line.target_inside), left-room (printed (request_variables s)) _ refl second)

pub put_server-requires : goal.put_server-requires
put_server-requires c =
    let s = c.args.s.now in
    let known = c.requires.0 in
    let first = left-first (behind_content s) (block-parts s known c.args.size) (omega (arith, c.requires.1)) c.put_content.ensures in
    let second = left-more (behind_path s) refl first c.put_path.ensures in
    let third = left-more (behind_request s) refl second c.put_request.ensures in
    ((known.settings, known.line.minor_is, known.name, known.line.decoded_inside), left-room (printed (server_variables s)) _ refl third)

pub put_fields-requires : goal.put_fields-requires
put_fields-requires c =
    let s = c.args.s.now in
    let first = left-first (behind_content s) (block-parts s c.requires.0 c.args.size) (omega (arith, c.requires.1)) c.put_content.ensures in
    let second = left-more (behind_path s) refl first c.put_path.ensures in
    let third = left-more (behind_request s) refl second c.put_request.ensures in
    (c.names_repeat-repeat.ensures.0, left-rest (left-more (behind_server s) refl third c.put_server.ensures))

pub returns : goal.returns
returns c =
    let s = c.args.s.now in
    let first = left-first (behind_content s) (block-parts s c.requires.0 c.args.size) (omega (arith, c.requires.1)) c.put_content.ensures in
    let second = left-more (behind_path s) refl first c.put_path.ensures in
    let third = left-more (behind_request s) refl second c.put_request.ensures in
    let fourth = left-more (behind_server s) refl third c.put_server.ensures in
    let done = left-last fourth c.put_fields.ensures in
    record { ends = done.wrote.ends; holds = search (rules, done.same_buffer, done.wrote.holds) }
