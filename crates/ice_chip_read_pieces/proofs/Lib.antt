mod CutLaws
mod FeedLaws
mod SaidLaws
mod Following
