use Rattle.std.proofs.Common.{ap, ◌++◌, codes}
use Rattle.open_files.proofs.EncodeLemmas.{encoded_is}
use Rattle.open_files.proofs.uri.uri_of.Goals as goal

pub returns : goal.returns
returns c =
    rw (c.in_ok-append_to.ensures.ok, c.in_ok-uri.ensures.ok, c.percent_encode.ensures.text)
    (ap (λ l. codes "file://" ++ l) (encoded_is c.args.path.now))
