use Rattle.wire.proofs.ReplyLemmas.{one_reply_lem}
use Rattle.wire.proofs.laws.one_reply.Goals as goal

pub returns : goal.returns
returns c = λ input request_read other_read old new again reply other no_filter is also small little known given.
    one_reply_lem input old new again reply other no_filter (record { request_read = request_read; replies = is; bytes = small; known = known })
    (record { request_read = other_read; replies = also; bytes = little; known = given })
