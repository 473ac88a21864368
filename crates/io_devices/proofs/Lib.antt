mod FetchCounts
